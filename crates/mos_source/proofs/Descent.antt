-- The rest of the innermost open block is read by the productions as the reader reads it.

use Rattle.std.proofs.Common.{◌≡◌, ℕ, zero, suc, ◌≤◌, Bool, true, false, List, [], ◌∷◌, ◌++◌, length, Option, Some, None, refl, sym, ◌∙◌, ap, subst, arith}
use Rattle.std.specs.Prelude.{is_some}
use Rattle.mos_text.specs.declared.kind.Kind.{Kind}
use Rattle.mos_text.specs.declared.kind.Kind.TheVariants as kind
use Rattle.mos_tree.specs.declared.form.PieceKind.{PieceKind}
use Rattle.mos_tree.specs.declared.form.PieceKind.TheVariants as piece_kind
use Rattle.mos_tree.specs.declared.form.PieceForm.{PieceForm}
use Rattle.mos_source.specs.declared.frame.Frame.{Frame}
use Rattle.mos_source.specs.declared.place.Place.{Place}
use Rattle.mos_source.specs.declared.place.Place.TheVariants as place_kind
use Rattle.mos_source.specs.declared.place.Role.{Role}
use Rattle.mos_source.specs.declared.place.Role.TheVariants.{Opens, Continues, StandsAlone, Closes}
use Rattle.mos_tree.specs.Forms.{piece_kind_of}
use Rattle.mos_source.specs.Limits.{own_limit}
use Rattle.mos_source.specs.Places.{role_at}
use Rattle.mos_source.specs.Sources.{limit}
use Rattle.mos_source.specs.Productions.{opens_block, form_at, Reading, took, broke, Reads}
use Rattle.mos_source.specs.Machine.{Stack, frame_place, enter, stopped, at_end, run}
use Rattle.mos_source.proofs.Steps.{step-role, run-step}
use Rattle.mos_source.proofs.Held.{is_model, Holds}
use Rattle.mos_source.proofs.Roles.{is_start, opens-there, stands-there, goes-there}
use Rattle.mos_source.proofs.SoundStep.{sound-enter}
use Rattle.mos_source.proofs.Behind.{inside, outside, ReadsLeft, choose, behind, may_begin, within, within_then, rest, whole, read-on, read-none}
use Rattle.mos_source.proofs.Waits.{waits, opened_place, gone_place, place_after, left_opened, left_after, left_at, is_end, waits-firm, left-is, begins-is}
use Rattle.mos_source.proofs.Counted.{may_open, may_not_open, frame-no-start, opens-so, unknown-nowhere, Counts, Fails, fails, counts}
use Rattle.mos_source.proofs.Shapes.{At, opened-at, gone-at, Adds, stands-adds, closes-adds, is_loop_body, adds-at, adds-ends, unfinished}

-- some pieces led to these blocks
unfoldable pub Live : Stack → Type 0
Live k = (before : List PieceForm) × Holds limit k before

-- the rest of a block at this place, the innermost one of `top`, with these blocks round it
pub data ReadAt (place : Place) (k top : Stack) (xs : List PieceForm) : Type 0 where
  broken : (left : List PieceForm) (wrong : Kind) → Reads (waits place) (length k) xs (broke left) → run limit top xs ≡ stopped wrong left → ReadAt place k top xs
  taken : (left : List PieceForm) (next : Stack) → Reads (waits place) (length k) xs (took left) → run limit top xs ≡ run limit next left → Adds k (is_model place) next → Live next → length left ≤ length xs → ReadAt place k top xs

-- ---- facts of places

-- what pieces open is no model and not the end
opened-block : (x : PieceKind) → opens_block x ≡ true → (is_end (opened_place x) ≡ false) × (is_model (opened_place x) ≡ false)
opened-block piece_kind.Parameters h = (refl, refl)
opened-block piece_kind.Declarations h = (refl, refl)
opened-block piece_kind.RecordOf h = (refl, refl)
opened-block piece_kind.Procedure h = (refl, refl)
opened-block piece_kind.Function h = (refl, refl)
opened-block piece_kind.If h = (refl, refl)
opened-block piece_kind.Case h = (refl, refl)
opened-block piece_kind.Forall h = (refl, refl)
opened-block piece_kind.While h = (refl, refl)
opened-block piece_kind.Repeat h = (refl, refl)
opened-block piece_kind.Do h = (refl, refl)
opened-block piece_kind.Initializations h = (refl, refl)
opened-block _ h = let no : ⊥ = cc in absurd no

case-arm-so : (b c : Bool) → choose b c false ≡ true → b ≡ true
case-arm-so true c h = refl
case-arm-so false c h = cc

opening : (place : Place) (x : PieceKind) → is_start place ≡ false → role_at place x ≡ Some Opens → opens_block x ≡ true
opening place x s r = case-arm-so (opens_block x) (may_open (role_at place x)) (ap (λ z. choose (opens_block x) (may_open (role_at place x)) (may_not_open z)) (sym r) ∙ opens-so place x s)

gone-end : (place : Place) (x : PieceKind) → is_end (gone_place place x) ≡ is_end place
gone-end place_kind.IfArm piece_kind.Else = refl
gone-end place_kind.IfArm _ = refl
gone-end place_kind.Case piece_kind.Alternative = refl
gone-end place_kind.Case piece_kind.Else = refl
gone-end place_kind.Case _ = refl
gone-end _ x = refl

gone-model : (place : Place) (x : PieceKind) → is_model (gone_place place x) ≡ is_model place
gone-model place_kind.IfArm piece_kind.Else = refl
gone-model place_kind.IfArm _ = refl
gone-model place_kind.Case piece_kind.Alternative = refl
gone-model place_kind.Case piece_kind.Else = refl
gone-model place_kind.Case _ = refl
gone-model _ x = refl

after-end : (place : Place) → is_end (place_after place) ≡ is_end place
after-end place_kind.Heads = refl
after-end _ = refl

after-model : (place : Place) → is_model (place_after place) ≡ is_model place
after-model place_kind.Heads = refl
after-model _ = refl

left-opened : (place inner : Place) → is_start place ≡ false → is_loop_body place ≡ false → left_opened place inner ≡ within_then (waits inner) (waits (place_after place))
left-opened place_kind.Start inner s l = let no : ⊥ = cc in absurd no
left-opened place_kind.LoopBody inner s l = let no : ⊥ = cc in absurd no
left-opened _ inner s l = refl

left-opened-loop : (place inner : Place) → is_loop_body place ≡ true → left_opened place inner ≡ within (waits inner)
left-opened-loop place_kind.LoopBody inner l = refl
left-opened-loop _ inner l = let no : ⊥ = cc in absurd no

left-after : (place : Place) → is_loop_body place ≡ false → left_after place ≡ rest (waits (place_after place))
left-after place_kind.LoopBody l = let no : ⊥ = cc in absurd no
left-after _ l = refl

left-after-loop : (place : Place) → is_loop_body place ≡ true → left_after place ≡ whole
left-after-loop place_kind.LoopBody l = refl
left-after-loop _ l = let no : ⊥ = cc in absurd no

loop-no-model : (place : Place) → is_loop_body place ≡ true → is_model place ≡ false
loop-no-model place_kind.LoopBody l = refl
loop-no-model _ l = let no : ⊥ = cc in absurd no

-- ---- a piece and what is read behind it

-- the rest of the block reads the piece and what is left behind it
pub on : (role : Role) (place : Place) (depth : ℕ) (x : PieceForm) (xs : List PieceForm) (end : Reading) → is_end place ≡ false → role_at place (form_at depth x) ≡ Some role → ReadsLeft (left_at (Some role) place (form_at depth x)) depth xs end → Reads (waits place) depth (x ∷ xs) end
on role place depth x xs end h r reads =
    let same : left_at (Some role) place (form_at depth x) ≡ behind (waits place) (form_at depth x) = ap (λ z. left_at z place (form_at depth x)) (sym r) ∙ sym (left-is place (form_at depth x) h) in
    read-on (waits place) depth x xs end (subst (λ z. ReadsLeft z depth xs end) same reads)

pub none-begins : (place : Place) (x : PieceKind) → is_end place ≡ false → role_at place x ≡ None → may_begin (waits place) x ≡ false
none-begins place x h r = begins-is place x h ∙ ap is_some r

-- a block that goes on is read to its end
further : (place next_place : Place) (k top next : Stack) (zs ys : List PieceForm) → run limit top zs ≡ run limit next ys → ((end : Reading) → Reads (waits next_place) (length k) ys end → Reads (waits place) (length k) zs end) → is_model next_place ≡ is_model place → length ys ≤ length zs → ReadAt next_place k next ys → ReadAt place k top zs
further place next_place k top next zs ys ran go model shorter (broken left wrong reads stops) = broken left wrong (go (broke left) reads) (ran ∙ stops)
further place next_place k top next zs ys ran go model shorter (taken left there reads runs adds live small) = taken left there (go (took left) reads) (ran ∙ runs) (subst (λ z. Adds k z there) model adds) live (omega (arith, shorter, small))

-- the block is read from the place to which a piece or a part led
unfoldable pub Reader : ℕ → Type 0
Reader n = (frame : Frame) (k : Stack) (xs : List PieceForm) → length xs ≤ n → is_end (frame_place frame) ≡ false → Live (frame ∷ k) → ReadAt (frame_place frame) k (frame ∷ k) xs

pub led : (n : ℕ) (place : Place) (k next : Stack) (xs : List PieceForm) → Reader n → length xs ≤ n → is_end place ≡ false → Live next → At k place next → ReadAt place k next xs
unfolding Reader
led n place k next xs read small h live at =
    let live_at : Live (at.frame ∷ k) = subst Live at.is live in
    let there : ReadAt (frame_place at.frame) k (at.frame ∷ k) xs = read at.frame k xs small (ap is_end at.there ∙ h) live_at in
    subst (λ z. ReadAt place k z xs) (sym at.is) (subst (λ z. ReadAt z k (at.frame ∷ k) xs) at.there there)

-- ---- a piece in its role

-- the blocks behind the piece
abbrev after : Role → Frame → Stack → PieceForm → Stack
after role frame k x = enter role x.line x.form (frame ∷ k)

-- the piece is taken
record Taken (frame : Frame) (k : Stack) (x : PieceForm) (xs : List PieceForm) (role : Role) : Type 0 where
  own : own_limit x.form ≡ None
  there : role_at (frame_place frame) (piece_kind_of x.form) ≡ Some role
  runs : run limit (frame ∷ k) (x ∷ xs) ≡ run limit (after role frame k x) xs
  before : Live (frame ∷ k)
  live : Live (after role frame k x)
  is : form_at (length k) x ≡ piece_kind_of x.form

takes : (frame : Frame) (k : Stack) (x : PieceForm) (xs : List PieceForm) (role : Role) → role_at (frame_place frame) (form_at (length k) x) ≡ Some role → Live (frame ∷ k) → Taken frame k x xs role
unfolding Live
takes frame k x xs role r live =
    let c : Counts frame k x role = counts frame k x role r in
    let there : role_at (frame_place frame) (piece_kind_of x.form) ≡ Some role = ap (role_at (frame_place frame)) (sym c.is) ∙ r in
    record {
      own = c.own;
      there = there;
      runs = run-step limit (frame ∷ k) (after role frame k x) x xs (step-role limit (frame ∷ k) x role there c.own c.block);
      before = live;
      live = (live.0 ++ x ∷ [], sound-enter limit role (frame ∷ k) x.line x.form live.0 live.1 there c.own c.block);
      is = c.is;
    }

At-here : Frame → Stack → PieceForm → List PieceForm → Type 0
At-here frame k x xs = ReadAt (frame_place frame) k (frame ∷ k) (x ∷ xs)

read-none-there : (frame : Frame) (k : Stack) (x : PieceForm) (xs : List PieceForm) → is_end (frame_place frame) ≡ false → role_at (frame_place frame) (form_at (length k) x) ≡ None → At-here frame k x xs
unfolding At-here Fails
read-none-there frame k x xs h r =
    let failed : Fails (frame ∷ k) x = fails frame k x r in
    broken (x ∷ xs) failed.0 (read-none (waits (frame_place frame)) (length k) (x ∷ xs) (waits-firm (frame_place frame)) (none-begins (frame_place frame) (form_at (length k) x) h r)) (rw failed.1 refl)

read-closes : (frame : Frame) (k : Stack) (x : PieceForm) (xs : List PieceForm) → is_end (frame_place frame) ≡ false → role_at (frame_place frame) (form_at (length k) x) ≡ Some Closes → Taken frame k x xs Closes → At-here frame k x xs
unfolding At-here Live
read-closes frame k x xs h r t = taken xs (after Closes frame k x) (on Closes (frame_place frame) (length k) x xs (took xs) h r refl) t.runs (closes-adds limit x.line x.form frame k t.before.0 t.before.1 t.own t.there) t.live (omega arith)

read-goes : (n : ℕ) (frame : Frame) (k : Stack) (x : PieceForm) (xs : List PieceForm) → Reader n → length xs ≤ n → is_end (frame_place frame) ≡ false → role_at (frame_place frame) (form_at (length k) x) ≡ Some Continues → Taken frame k x xs Continues → At-here frame k x xs
unfolding At-here
read-goes n frame k x xs read small h r t =
    let place : Place = gone_place (frame_place frame) (form_at (length k) x) in
    let next : Stack = after Continues frame k x in
    let at : At k place next = subst (λ z. At k (gone_place (frame_place frame) z) next) (sym t.is) (gone-at x.line frame x.form k (goes-there frame x.form t.own t.there)) in
    let there : ReadAt place k next xs = led n place k next xs read small (gone-end (frame_place frame) (form_at (length k) x) ∙ h) t.live at in
    further (frame_place frame) place k (frame ∷ k) next (x ∷ xs) xs t.runs (λ end reads. on Continues (frame_place frame) (length k) x xs end h r reads) (gone-model (frame_place frame) (form_at (length k) x)) (omega arith) there

-- behind a whole part of the block
read-after : (n : ℕ) (loop : Bool) (frame : Frame) (k : Stack) (zs ys : List PieceForm) (next : Stack) → Reader n → is_loop_body (frame_place frame) ≡ loop → is_end (frame_place frame) ≡ false → length ys ≤ n → length ys ≤ length zs → run limit (frame ∷ k) zs ≡ run limit next ys → Live (frame ∷ k) → Live next → Adds (frame ∷ k) false next → (is_loop_body (frame_place frame) ≡ true → Reads (waits (frame_place frame)) (length k) zs (took ys)) → (is_loop_body (frame_place frame) ≡ false → (end : Reading) → Reads (waits (place_after (frame_place frame))) (length k) ys end → Reads (waits (frame_place frame)) (length k) zs end) → ReadAt (frame_place frame) k (frame ∷ k) zs
unfolding Live
read-after n true frame k zs ys next read l h small shorter ran before live adds ends goes =
    taken ys next (ends l) ran (subst (λ z. Adds k z next) (sym (loop-no-model (frame_place frame) l)) (adds-ends limit frame k next before.0 before.1 l adds)) live shorter
read-after n false frame k zs ys next read l h small shorter ran before live adds ends goes =
    let there : ReadAt (place_after (frame_place frame)) k next ys = led n (place_after (frame_place frame)) k next ys read small (after-end (frame_place frame) ∙ h) live (adds-at frame k next l adds) in
    further (frame_place frame) (place_after (frame_place frame)) k (frame ∷ k) next zs ys ran (goes l) (after-model (frame_place frame)) shorter there

read-stands : (n : ℕ) (frame : Frame) (k : Stack) (x : PieceForm) (xs : List PieceForm) → Reader n → length xs ≤ n → is_end (frame_place frame) ≡ false → role_at (frame_place frame) (form_at (length k) x) ≡ Some StandsAlone → Taken frame k x xs StandsAlone → At-here frame k x xs
unfolding At-here
read-stands n frame k x xs read small h r t =
    read-after n (is_loop_body (frame_place frame)) frame k (x ∷ xs) xs (after StandsAlone frame k x) read refl h small (omega arith) t.runs t.before t.live (stands-adds x.line x.form (frame ∷ k) (stands-there (frame_place frame) (piece_kind_of x.form) t.there) t.own)
    (λ l. on StandsAlone (frame_place frame) (length k) x xs (took xs) h r (subst (λ z. ReadsLeft z (length k) xs (took xs)) (sym (left-after-loop (frame_place frame) l)) refl))
    (λ l end reads. on StandsAlone (frame_place frame) (length k) x xs end h r (subst (λ z. ReadsLeft z (length k) xs end) (sym (left-after (frame_place frame) l)) reads))

-- the block that a piece opened breaks, or is read to its end
opens-breaks : (loop : Bool) (frame : Frame) (k : Stack) (x : PieceForm) (xs left : List PieceForm) → is_loop_body (frame_place frame) ≡ loop → is_end (frame_place frame) ≡ false → role_at (frame_place frame) (form_at (length k) x) ≡ Some Opens → Reads (waits (opened_place (form_at (length k) x))) (suc (length k)) xs (broke left) → Reads (waits (frame_place frame)) (length k) (x ∷ xs) (broke left)
opens-breaks true frame k x xs left l h r reads = on Opens (frame_place frame) (length k) x xs (broke left) h r (subst (λ z. ReadsLeft z (length k) xs (broke left)) (sym (left-opened-loop (frame_place frame) (opened_place (form_at (length k) x)) l)) reads)
opens-breaks false frame k x xs left l h r reads = on Opens (frame_place frame) (length k) x xs (broke left) h r (subst (λ z. ReadsLeft z (length k) xs (broke left)) (sym (left-opened (frame_place frame) (opened_place (form_at (length k) x)) (frame-no-start frame) l)) (inside left reads))

opens-inner : (n : ℕ) (frame : Frame) (k : Stack) (x : PieceForm) (xs : List PieceForm) (next : Stack) → Reader n → length xs ≤ n → is_end (frame_place frame) ≡ false → role_at (frame_place frame) (form_at (length k) x) ≡ Some Opens → is_model (opened_place (form_at (length k) x)) ≡ false → run limit (frame ∷ k) (x ∷ xs) ≡ run limit next xs → Live (frame ∷ k) → ReadAt (opened_place (form_at (length k) x)) (frame ∷ k) next xs → At-here frame k x xs
unfolding At-here
opens-inner n frame k x xs next read small h r model ran before (broken left wrong reads stops) = broken left wrong (opens-breaks (is_loop_body (frame_place frame)) frame k x xs left refl h r reads) (ran ∙ stops)
opens-inner n frame k x xs next read small h r model ran before (taken left there reads runs adds live less) =
    read-after n (is_loop_body (frame_place frame)) frame k (x ∷ xs) left there read refl h (omega (arith, small, less)) (omega (arith, less)) (ran ∙ runs) before live (subst (λ z. Adds (frame ∷ k) z there) model adds)
    (λ l. on Opens (frame_place frame) (length k) x xs (took left) h r (subst (λ z. ReadsLeft z (length k) xs (took left)) (sym (left-opened-loop (frame_place frame) (opened_place (form_at (length k) x)) l)) reads))
    (λ l end more. on Opens (frame_place frame) (length k) x xs end h r (subst (λ z. ReadsLeft z (length k) xs end) (sym (left-opened (frame_place frame) (opened_place (form_at (length k) x)) (frame-no-start frame) l)) (outside left end reads more)))

read-opens : (n : ℕ) (frame : Frame) (k : Stack) (x : PieceForm) (xs : List PieceForm) → Reader n → length xs ≤ n → is_end (frame_place frame) ≡ false → role_at (frame_place frame) (form_at (length k) x) ≡ Some Opens → Taken frame k x xs Opens → At-here frame k x xs
read-opens n frame k x xs read small h r t =
    let place : Place = opened_place (form_at (length k) x) in
    let block : (is_end place ≡ false) × (is_model place ≡ false) = opened-block (form_at (length k) x) (opening (frame_place frame) (form_at (length k) x) (frame-no-start frame) r) in
    let next : Stack = after Opens frame k x in
    let at : At (frame ∷ k) place next = subst (λ z. At (frame ∷ k) (opened_place z) next) (sym t.is) (opened-at x.line x.form (frame ∷ k) (opens-there (frame_place frame) (piece_kind_of x.form) t.there) t.own) in
    opens-inner n frame k x xs next read small h r block.1 t.runs t.before (led n place (frame ∷ k) next xs read small block.0 t.live at)

read-role : (n : ℕ) (role : Option Role) (frame : Frame) (k : Stack) (x : PieceForm) (xs : List PieceForm) → Reader n → length xs ≤ n → is_end (frame_place frame) ≡ false → role_at (frame_place frame) (form_at (length k) x) ≡ role → Live (frame ∷ k) → At-here frame k x xs
read-role n None frame k x xs read small h r live = read-none-there frame k x xs h r
read-role n (Some Opens) frame k x xs read small h r live = read-opens n frame k x xs read small h r (takes frame k x xs Opens r live)
read-role n (Some Continues) frame k x xs read small h r live = read-goes n frame k x xs read small h r (takes frame k x xs Continues r live)
read-role n (Some StandsAlone) frame k x xs read small h r live = read-stands n frame k x xs read small h r (takes frame k x xs StandsAlone r live)
read-role n (Some Closes) frame k x xs read small h r live = read-closes frame k x xs h r (takes frame k x xs Closes r live)

-- ---- every block

pub read-block : (n : ℕ) (frame : Frame) (k : Stack) (xs : List PieceForm) → length xs ≤ n → is_end (frame_place frame) ≡ false → Live (frame ∷ k) → ReadAt (frame_place frame) k (frame ∷ k) xs
unfolding Reader At-here
read-block n frame k [] small h live = broken [] kind.Syntax (read-none (waits (frame_place frame)) (length k) [] (waits-firm (frame_place frame)) (none-begins (frame_place frame) piece_kind.Unknown h (unknown-nowhere (frame_place frame)))) (ap at_end (unfinished frame k h))
read-block zero frame k (x ∷ xs) small h live = absurd (omega (arith, small))
read-block (suc n) frame k (x ∷ xs) small h live = read-role n (role_at (frame_place frame) (form_at (length k) x)) frame k x xs (λ f j ys l e v. read-block n f j ys l e v) (omega (arith, small)) h refl live
