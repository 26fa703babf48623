-- A piece that breaks a limit is refused as one of no form is.

use Rattle.std.proofs.Common.{◌≡◌, ℕ, suc, ◌≤◌, ◌<◌, Bool, true, false, ◌∷◌, length, Option, Some, None, Err, refl, sym, ◌∙◌, ap, arith}
use Rattle.std.specs.Prelude.{nat_lt, nat_le}
use Rattle.std.proofs.lemmas.Bool.{leb-true, leb-false, lt-ltb}
use Rattle.mos_text.specs.declared.kind.Kind.{Kind}
use Rattle.mos_text.specs.declared.kind.Kind.TheVariants as kind
use Rattle.mos_tree.specs.declared.form.Form.{Form}
use Rattle.mos_tree.specs.declared.form.PieceKind.{PieceKind}
use Rattle.mos_tree.specs.declared.form.PieceKind.TheVariants as piece_kind
use Rattle.mos_tree.specs.declared.form.PieceForm.{PieceForm}
use Rattle.mos_source.specs.declared.frame.Frame.{Frame}
use Rattle.mos_source.specs.declared.frame.Frame.TheVariants as frame_kind
use Rattle.mos_source.specs.declared.place.Place.{Place}
use Rattle.mos_source.specs.declared.place.Place.TheVariants as place_kind
use Rattle.mos_source.specs.declared.place.Role.{Role}
use Rattle.mos_source.specs.declared.place.Role.TheVariants.{Opens, Continues, StandsAlone, Closes}
use Rattle.mos_tree.specs.Forms.{piece_kind_of}
use Rattle.mos_source.specs.Limits.{own_limit}
use Rattle.mos_source.specs.Places.{role_at}
use Rattle.mos_source.specs.Sources.{limit}
use Rattle.mos_source.specs.Productions.{opens_block, form_at}
use Rattle.mos_source.specs.Machine.{Stack, routine_place, frame_place, block_limit, step_as, step_in, step, place_of}
use Rattle.mos_source.proofs.Behind.{choose}
use Rattle.mos_source.proofs.Roles.{is_start}
use Rattle.mos_source.proofs.Naming.{room, step-none}

-- ---- roles of pieces that open a block

abbrev pub may_open : Option Role → Bool
may_open None = true
may_open (Some Opens) = true
may_open (Some _) = false

abbrev pub may_not_open : Option Role → Bool
may_not_open (Some Opens) = false
may_not_open _ = true

pub frame-no-start : (frame : Frame) → is_start (frame_place frame) ≡ false
frame-no-start (frame_kind.Routine heading parts) = routine-no-start heading.result
  where
    routine-no-start : (typ : Option _) → is_start (routine_place typ) ≡ false
    routine-no-start None = refl
    routine-no-start (Some t) = refl
frame-no-start _ = refl

-- the pieces that open a block do nothing else, and no other piece opens one
pub opens-so : (place : Place) (x : PieceKind) → is_start place ≡ false → choose (opens_block x) (may_open (role_at place x)) (may_not_open (role_at place x)) ≡ true
unfolding role_at
opens-so place_kind.Start x s = let no : ⊥ = cc in absurd no
opens-so _ piece_kind.Unknown s = refl
opens-so _ _ s = refl

only-opens : (role : Role) → may_open (Some role) ≡ true → role ≡ Opens
only-opens Opens h = refl
only-opens _ h = cc

pub unknown-nowhere : (place : Place) → role_at place piece_kind.Unknown ≡ None
unfolding role_at
unknown-nowhere place_kind.Start = refl
unknown-nowhere _ = refl

-- ---- the form that counts

pub counts-own : (depth : ℕ) (x : PieceForm) (found : Kind) → own_limit x.form ≡ Some found → form_at depth x ≡ piece_kind.Unknown
unfolding form_at
counts-own depth x found o = rw o refl

counts-deep : (depth : ℕ) (x : PieceForm) → own_limit x.form ≡ None → opens_block (piece_kind_of x.form) ≡ true → nat_le limit depth ≡ true → form_at depth x ≡ piece_kind.Unknown
unfolding form_at
counts-deep depth x o b d = rw (o, b, d) refl

pub counts-fits : (depth : ℕ) (x : PieceForm) → own_limit x.form ≡ None → opens_block (piece_kind_of x.form) ≡ true → nat_le limit depth ≡ false → form_at depth x ≡ piece_kind_of x.form
unfolding form_at
counts-fits depth x o b d = rw (o, b, d) refl

pub counts-other : (depth : ℕ) (x : PieceForm) → own_limit x.form ≡ None → opens_block (piece_kind_of x.form) ≡ false → form_at depth x ≡ piece_kind_of x.form
unfolding form_at
counts-other depth x o b = rw (o, b) refl

-- ---- refused

unfoldable pub Fails : Stack → PieceForm → Type 0
Fails k x = (wrong : Kind) × (step limit k x ≡ Err wrong)

fails-own-in : (role : Option Role) (k : Stack) (line : ℕ) (form : Form) (found : Kind) → own_limit form ≡ Some found → (wrong : Kind) × (step_in limit role line form k ≡ Err wrong)
unfolding step_as
fails-own-in None k line form found o = (kind.Syntax, refl)
fails-own-in (Some role) k line form found o = (found, rw o refl)

pub fails-own : (k : Stack) (x : PieceForm) (found : Kind) → own_limit x.form ≡ Some found → Fails k x
unfolding Fails step
fails-own k x found o = fails-own-in _ k x.line x.form found o

fails-deep-in : (role : Option Role) (k : Stack) (line : ℕ) (form : Form) → may_open role ≡ true → own_limit form ≡ None → nat_lt limit (length k) ≡ true → (wrong : Kind) × (step_in limit role line form k ≡ Err wrong)
unfolding step_as
fails-deep-in None k line form r o d = (kind.Syntax, refl)
fails-deep-in (Some Opens) k line form r o d = (kind.Deep, rw (o, d) refl)
fails-deep-in (Some _) k line form r o d = let no : ⊥ = cc in absurd no

fails-deep : (frame : Frame) (k : Stack) (x : PieceForm) → own_limit x.form ≡ None → opens_block (piece_kind_of x.form) ≡ true → nat_le limit (length k) ≡ true → Fails (frame ∷ k) x
unfolding Fails step
fails-deep frame k x o b d =
    let so : choose (opens_block (piece_kind_of x.form)) (may_open (role_at (frame_place frame) (piece_kind_of x.form))) (may_not_open (role_at (frame_place frame) (piece_kind_of x.form))) ≡ true = opens-so (frame_place frame) (piece_kind_of x.form) (frame-no-start frame) in
    let may : may_open (role_at (frame_place frame) (piece_kind_of x.form)) ≡ true = ap (λ z. choose z (may_open (role_at (frame_place frame) (piece_kind_of x.form))) (may_not_open (role_at (frame_place frame) (piece_kind_of x.form)))) (sym b) ∙ so in
    let forall_ : limit ≤ length k = leb-true limit (length k) d in
    fails-deep-in (role_at (frame_place frame) (piece_kind_of x.form)) (frame ∷ k) x.line x.form may o (lt-ltb limit (suc (length k)) (omega (arith, forall_)))

pub fails-none : (k : Stack) (x : PieceForm) → role_at (place_of k) (piece_kind_of x.form) ≡ None → Fails k x
unfolding Fails
fails-none k x r = (kind.Syntax, step-none limit k x r)

pub as-kind : (place : Place) (depth : ℕ) (x : PieceForm) (role : Option Role) → form_at depth x ≡ piece_kind_of x.form → role_at place (form_at depth x) ≡ role → role_at place (piece_kind_of x.form) ≡ role
as-kind place depth x role e r = ap (role_at place) (sym e) ∙ r

fails-by : (frame : Frame) (k : Stack) (x : PieceForm) (own : Option Kind) (open_ deep : Bool) → own_limit x.form ≡ own → opens_block (piece_kind_of x.form) ≡ open_ → nat_le limit (length k) ≡ deep → role_at (frame_place frame) (form_at (length k) x) ≡ None → Fails (frame ∷ k) x
fails-by frame k x (Some found) open_ deep o b d r = fails-own (frame ∷ k) x found o
fails-by frame k x None true true o b d r = fails-deep frame k x o b d
fails-by frame k x None true false o b d r = fails-none (frame ∷ k) x (as-kind (frame_place frame) (length k) x None (counts-fits (length k) x o b d) r)
fails-by frame k x None false deep o b d r = fails-none (frame ∷ k) x (as-kind (frame_place frame) (length k) x None (counts-other (length k) x o b) r)

pub fails : (frame : Frame) (k : Stack) (x : PieceForm) → role_at (frame_place frame) (form_at (length k) x) ≡ None → Fails (frame ∷ k) x
fails frame k x r = fails-by frame k x (own_limit x.form) (opens_block (piece_kind_of x.form)) (nat_le limit (length k)) refl refl refl r

-- ---- taken

-- a piece that may stand at the place breaks no limit
pub record Counts (frame : Frame) (k : Stack) (x : PieceForm) (role : Role) : Type 0 where
  pub own : own_limit x.form ≡ None
  pub is : form_at (length k) x ≡ piece_kind_of x.form
  pub block : block_limit limit role (suc (length k)) ≡ None

pub not-known : (place : Place) (x : PieceKind) (role : Role) → x ≡ piece_kind.Unknown → role_at place x ≡ Some role → ⊥
not-known place x role e r =
    let none : role_at place x ≡ None = ap (role_at place) e ∙ unknown-nowhere place in
    cc

no-block : (role : Role) (n : ℕ) → may_not_open (Some role) ≡ true → block_limit limit role n ≡ None
no-block Opens n h = let no : ⊥ = cc in absurd no
no-block Continues n h = refl
no-block StandsAlone n h = refl
no-block Closes n h = refl

counts-by : (frame : Frame) (k : Stack) (x : PieceForm) (role : Role) (own : Option Kind) (open_ deep : Bool) → own_limit x.form ≡ own → opens_block (piece_kind_of x.form) ≡ open_ → nat_le limit (length k) ≡ deep → role_at (frame_place frame) (form_at (length k) x) ≡ Some role → Counts frame k x role
counts-by frame k x role (Some found) open_ deep o b d r = absurd (not-known (frame_place frame) (form_at (length k) x) role (counts-own (length k) x found o) r)
counts-by frame k x role None true true o b d r = absurd (not-known (frame_place frame) (form_at (length k) x) role (counts-deep (length k) x o b d) r)
counts-by frame k x role None true false o b d r =
    let under : length k < limit = leb-false limit (length k) d in
    record { own = o; is = counts-fits (length k) x o b d; block = room limit role (suc (length k)) under }
counts-by frame k x role None false deep o b d r =
    let is-kind : form_at (length k) x ≡ piece_kind_of x.form = counts-other (length k) x o b in
    let here : role_at (frame_place frame) (piece_kind_of x.form) ≡ Some role = as-kind (frame_place frame) (length k) x (Some role) is-kind r in
    let so : choose (opens_block (piece_kind_of x.form)) (may_open (role_at (frame_place frame) (piece_kind_of x.form))) (may_not_open (role_at (frame_place frame) (piece_kind_of x.form))) ≡ true = opens-so (frame_place frame) (piece_kind_of x.form) (frame-no-start frame) in
    let may : may_not_open (role_at (frame_place frame) (piece_kind_of x.form)) ≡ true = ap (λ z. choose z (may_open (role_at (frame_place frame) (piece_kind_of x.form))) (may_not_open (role_at (frame_place frame) (piece_kind_of x.form)))) (sym b) ∙ so in
    record { own = o; is = is-kind; block = no-block role (suc (length k)) (ap may_not_open (sym here) ∙ may) }

pub counts : (frame : Frame) (k : Stack) (x : PieceForm) (role : Role) → role_at (frame_place frame) (form_at (length k) x) ≡ Some role → Counts frame k x role
counts frame k x role r = counts-by frame k x role (own_limit x.form) (opens_block (piece_kind_of x.form)) (nat_le limit (length k)) refl refl refl r
