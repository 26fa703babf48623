-- Where a piece leads: the places of the blocks that are open behind it.

use Rattle.std.proofs.Common.{◌≡◌, ℕ, ◌≤◌, Bool, true, false, List, [], ◌∷◌, ◌++◌, length, Option, Some, None, refl, sym, ap, subst, arith}
use Rattle.mos_tree.specs.declared.expr.Expr.{Expr}
use Rattle.mos_tree.specs.declared.declaration.BaseType.{BaseType}
use Rattle.mos_tree.specs.declared.declaration.Heading.{Heading}
use Rattle.mos_tree.specs.declared.declaration.Item.TheVariants as item_kind
use Rattle.mos_tree.specs.declared.source.RoutinePart.{RoutinePart}
use Rattle.mos_tree.specs.declared.source.Top.TheVariants as top
use Rattle.mos_tree.specs.declared.statement.Statement.{Statement}
use Rattle.mos_tree.specs.declared.statement.Statement.TheVariants as statement_kind
use Rattle.mos_tree.specs.declared.form.Form.{Form}
use Rattle.mos_tree.specs.declared.form.Form.TheVariants as form_kind
use Rattle.mos_tree.specs.declared.form.ConditionKeyword.TheVariants as conditional
use Rattle.mos_tree.specs.declared.form.Keyword.TheVariants as keyword
use Rattle.mos_tree.specs.declared.form.PieceForm.{PieceForm}
use Rattle.mos_source.specs.declared.frame.Frame.{Frame}
use Rattle.mos_source.specs.declared.frame.Frame.TheVariants as frame_kind
use Rattle.mos_source.specs.declared.frame.Part.{Part}
use Rattle.mos_source.specs.declared.frame.Part.TheVariants as part
use Rattle.mos_source.specs.declared.place.Place.{Place}
use Rattle.mos_source.specs.declared.place.Place.TheVariants as place_kind
use Rattle.mos_source.specs.declared.place.Role.TheVariants.{Closes}
use Rattle.mos_tree.specs.Forms.{piece_kind_of, routine_kind}
use Rattle.mos_source.specs.Limits.{own_limit}
use Rattle.mos_source.specs.Places.{takes_statements, role_at}
use Rattle.mos_source.specs.Statements.{arm_of, statement_of}
use Rattle.mos_source.specs.Machine.{Stack, routine_place, frame_place, place_of, push_frame, opened_by, stands_alone, continued_by, close, add_statement, add_other, add_part, add, finished_tree}
use Rattle.mos_source.proofs.Held.{is_model, takes_declarations, is_declarations, no-model, no-declarations, Holds}
use Rattle.mos_source.proofs.Roles.{opens_at, stands_at, no-routine, closes-repeat, none-closes, goes_on}
use Rattle.mos_source.proofs.Waits.{opened_place, gone_place, place_after, is_end}

-- a block at this place is open in these
pub record At (k : Stack) (place : Place) (next : Stack) : Type 0 where
  pub frame : Frame
  pub is : next ≡ frame ∷ k
  pub there : frame_place frame ≡ place

here : (k : Stack) (frame : Frame) → At k (frame_place frame) (frame ∷ k)
here k frame = record { frame = frame; is = refl; there = refl }

-- ---- opening

routine-opened : (result : Option BaseType) → routine_place result ≡ opened_place (routine_kind result)
routine-opened None = refl
routine-opened (Some typ) = refl

pub opened-at : (line : ℕ) (form : Form) (k : Stack) → opens_at (piece_kind_of form) (place_of k) ≡ true → own_limit form ≡ None → At k (opened_place (piece_kind_of form)) (push_frame (opened_by line form) k)
opened-at line (form_kind.Model name) k o l = here k (frame_kind.Heads line name [])
opened-at line (form_kind.Keyword keyword.Parameters) k o l = here k (frame_kind.Parameters line [])
opened-at line (form_kind.Keyword keyword.Declarations) k o l = here k (frame_kind.Declarations line [])
opened-at line (form_kind.Keyword keyword.Repeat) k o l = here k (frame_kind.Repeat line [])
opened-at line (form_kind.Keyword keyword.Do) k o l = here k (frame_kind.Do line [])
opened-at line (form_kind.RecordOf name) k o l = here k (frame_kind.Record line name [])
opened-at line (form_kind.Routine name formals result) k o l = record { frame = frame_kind.Routine (record { line = line; name = name; formals = formals; result = result }) []; is = refl; there = routine-opened result }
opened-at line (form_kind.Guarded conditional.If x) k o l = here k (frame_kind.IfArm line [] line x [])
opened-at line (form_kind.Guarded conditional.Case x) k o l = here k (frame_kind.Case line x [])
opened-at line (form_kind.Guarded conditional.While x) k o l = here k (frame_kind.While line x)
opened-at line (form_kind.Forall index) k o l = here k (frame_kind.Forall line index)
opened-at line (form_kind.Initializations direction name) k o l = here k (frame_kind.Initializations line direction name [])
opened-at line _ k o l = let no : ⊥ = cc in absurd no

-- ---- going on

pub gone-at : (line : ℕ) (frame : Frame) (form : Form) (k : Stack) → goes_on frame form ≡ true → At k (gone_place (frame_place frame) (piece_kind_of form)) (continued_by line form frame ∷ k)
gone-at line (frame_kind.Heads at name xs) (form_kind.Uses modules) k q = here k _
gone-at line (frame_kind.Heads at name xs) (form_kind.Options x) k q = here k _
gone-at line (frame_kind.Parameters at xs) (form_kind.Definition name value) k q = here k _
gone-at line (frame_kind.Declarations at xs) (form_kind.Definition name value) k q = here k _
gone-at line (frame_kind.Declarations at xs) (form_kind.Typed names typ) k q = here k _
gone-at line (frame_kind.Record at name xs) (form_kind.Typed names typ) k q = here k _
gone-at line (frame_kind.IfArm first arms at c body) (form_kind.Guarded conditional.Elif x) k q = here k _
gone-at line (frame_kind.IfArm first arms at c body) (form_kind.Keyword keyword.Else) k q = here k _
gone-at line (frame_kind.Case at v xs) (form_kind.Alternative x) k q = here k _
gone-at line (frame_kind.Case at v xs) (form_kind.Keyword keyword.Else) k q = here k _
gone-at line (frame_kind.Initializations at d n xs) (form_kind.Bare x) k q = here k _
gone-at line (frame_kind.Initializations at d n xs) (form_kind.Labels x) k q = here k _
gone-at line _ _ k q = let no : ⊥ = cc in absurd no

-- ---- a part more

abbrev pub is_source : Part → Bool
is_source (part.Source tree) = true
is_source _ = false

-- the places that take a part of this kind
abbrev pub takes : Part → Place → Bool
takes (part.Statement x) = takes_statements
takes (part.Declared x) = takes_declarations
takes (part.Top x) = is_model
takes (part.Record x) = is_declarations
takes (part.Source x) = λ place. true

-- the blocks are given this part
pub record Adds (k : Stack) (source : Bool) (next : Stack) : Type 0 where
  pub part : Part
  pub is : add_part part k ≡ next
  pub kind : is_source part ≡ source
  pub fits : takes part (place_of k) ≡ true

given : (k : Stack) (x : Part) → takes x (place_of k) ≡ true → Adds k (is_source x) (add_part x k)
given k x fits = record { part = x; is = refl; kind = refl; fits = fits }

pub stands-adds : (line : ℕ) (form : Form) (k : Stack) → stands_at (piece_kind_of form) (place_of k) ≡ true → own_limit form ≡ None → Adds k false (add (stands_alone line form) k)
stands-adds line (form_kind.Simple simple) k o l = given k (part.Statement (statement_of line simple)) o
stands-adds line (form_kind.Bare name) k o l = given k (part.Statement (statement_kind.Call line name [])) o
stands-adds line (form_kind.Forward name formals result) k o l = given k (part.Top (top.Forward (record { line = line; name = name; formals = formals; result = result }))) o
stands-adds line (form_kind.Routine name formals result) k o l = absurd (no-routine (place_of k) result o)
stands-adds line (form_kind.Keyword keyword.EndIf) k o l = let no : ⊥ = cc in absurd no
stands-adds line (form_kind.Guarded conditional.If x) k o l = let no : ⊥ = cc in absurd no
stands-adds line _ k o l = let no : ⊥ = cc in absurd no

pub routine-no-model : (result : Option BaseType) → is_model (routine_place result) ≡ false
routine-no-model None = refl
routine-no-model (Some typ) = refl

pub closes-adds : (deep : ℕ) (line : ℕ) (form : Form) (frame : Frame) (k : Stack) (ps : List PieceForm) → Holds deep (frame ∷ k) ps → own_limit form ≡ None → role_at (frame_place frame) (piece_kind_of form) ≡ Some Closes → Adds k (is_model (frame_place frame)) (close line form (frame ∷ k))
closes-adds deep line form (frame_kind.Heads at name heads) k ps held o r = given k (part.Source (record { line = at; name = name; heads = heads; tops = [] })) refl
closes-adds deep line form (frame_kind.Tops at name heads tops) k ps held o r = given k (part.Source (record { line = at; name = name; heads = heads; tops = tops })) refl
closes-adds deep line form (frame_kind.Parameters at xs) k ps held o r = given k (part.Top (top.Parameters at xs)) held.4.there
closes-adds deep line form (frame_kind.Declarations at xs) k ps held o r = given k (part.Declared (record { line = at; items = xs })) held.4.there
closes-adds deep line form (frame_kind.Record at name xs) k ps held o r = given k (part.Record (item_kind.Record at name xs)) held.4.there
closes-adds deep line form (frame_kind.Routine heading xs) k ps held o r = subst (λ z. Adds k z (close line form (frame_kind.Routine heading xs ∷ k))) (sym (routine-no-model heading.result)) (given k (part.Top (top.Routine (record { heading = heading; parts = xs }))) held.4.there)
closes-adds deep line form (frame_kind.IfArm first arms at condition body) k ps held o r = given k (part.Statement (statement_kind.If first (arms ++ arm_of at condition body ∷ []) [])) held.4.there
closes-adds deep line form (frame_kind.IfElse first arms body) k ps held o r = given k (part.Statement (statement_kind.If first arms body)) held.4.there
closes-adds deep line form (frame_kind.Case at value xs) k ps held o r = given k (part.Statement (statement_kind.Case at value xs [])) held.4.there
closes-adds deep line form (frame_kind.CaseElse at value xs body) k ps held o r = given k (part.Statement (statement_kind.Case at value xs body)) held.4.there
closes-adds deep line form (frame_kind.Repeat at body) k ps held o r =
    let until-is : (c : Expr) × (form ≡ form_kind.Guarded conditional.Until c) = closes-repeat form o r in
    subst (λ z. Adds k false (close line z (frame_kind.Repeat at body ∷ k))) (sym until-is.1) (given k (part.Statement (statement_kind.Repeat at body line until-is.0)) held.4.there)
closes-adds deep line form (frame_kind.Do at body) k ps held o r = given k (part.Statement (statement_kind.Do at body)) held.4.there
closes-adds deep line form (frame_kind.Initializations at direction name rows) k ps held o r = given k (part.Statement (statement_kind.Initializations at direction name rows)) held.4.there
closes-adds deep line form (frame_kind.CaseArm at value xs to labels) k ps held o r = absurd (none-closes place_kind.CaseArm (piece_kind_of form) refl r)
closes-adds deep line form (frame_kind.Forall at index) k ps held o r = absurd (none-closes place_kind.LoopBody (piece_kind_of form) refl r)
closes-adds deep line form (frame_kind.While at condition) k ps held o r = absurd (none-closes place_kind.LoopBody (piece_kind_of form) refl r)
closes-adds deep line form (frame_kind.End tree) k ps held o r = absurd (none-closes place_kind.End (piece_kind_of form) refl r)

-- ---- behind a part

-- a statement leaves no more blocks open
pub no-higher : (k : Stack) (x : Statement) → length (add_statement x k) ≤ length k
no-higher [] x = omega arith
no-higher (frame_kind.Forall line index ∷ k) x = omega (arith, no-higher k (statement_kind.Forall line index x))
no-higher (frame_kind.While line condition ∷ k) x = omega (arith, no-higher k (statement_kind.While line condition x))
no-higher (_ ∷ k) x = omega arith

other-no-higher : (k : Stack) (x : Part) → length (add_other x k) ≤ length k
other-no-higher [] x = omega arith
other-no-higher (frame ∷ k) x = omega arith

part-no-higher : (k : Stack) (x : Part) → is_source x ≡ false → length (add_part x k) ≤ length k
part-no-higher k (part.Statement x) n = no-higher k x
part-no-higher k (part.Source x) n = let no : ⊥ = cc in absurd no
part-no-higher k x n = other-no-higher k x

pub adds-no-higher : (k next : Stack) → Adds k false next → length next ≤ length k
adds-no-higher k next a = omega (arith, ap length a.is, part-no-higher k a.part a.kind)

abbrev pub is_loop_body : Place → Bool
is_loop_body place_kind.LoopBody = true
is_loop_body _ = false

routine-after : (result : Option BaseType) → routine_place result ≡ place_after (routine_place result)
routine-after None = refl
routine-after (Some typ) = refl

routine-at : (k : Stack) (heading : Heading) (xs : List RoutinePart) → At k (place_after (routine_place heading.result)) (frame_kind.Routine heading xs ∷ k)
routine-at k heading xs = record { frame = frame_kind.Routine heading xs; is = refl; there = routine-after heading.result }

part-at : (x : Part) (frame : Frame) (k : Stack) → is_loop_body (frame_place frame) ≡ false → is_source x ≡ false → takes x (frame_place frame) ≡ true → At k (place_after (frame_place frame)) (add_part x (frame ∷ k))
part-at (part.Statement x) (frame_kind.Heads line name heads) k h n o = here k _
part-at (part.Statement x) (frame_kind.Tops line name heads tops) k h n o = here k _
part-at (part.Statement x) (frame_kind.Routine heading xs) k h n o = routine-at k heading _
part-at (part.Statement x) (frame_kind.IfArm first arms line condition body) k h n o = here k _
part-at (part.Statement x) (frame_kind.IfElse first arms body) k h n o = here k _
part-at (part.Statement x) (frame_kind.CaseArm line value xs at labels) k h n o = here k _
part-at (part.Statement x) (frame_kind.CaseElse line value xs body) k h n o = here k _
part-at (part.Statement x) (frame_kind.Repeat line body) k h n o = here k _
part-at (part.Statement x) (frame_kind.Do line body) k h n o = here k _
part-at (part.Declared x) (frame_kind.Heads line name heads) k h n o = here k _
part-at (part.Declared x) (frame_kind.Tops line name heads tops) k h n o = here k _
part-at (part.Declared x) (frame_kind.Routine heading xs) k h n o = routine-at k heading _
part-at (part.Top x) (frame_kind.Heads line name heads) k h n o = here k _
part-at (part.Top x) (frame_kind.Tops line name heads tops) k h n o = here k _
part-at (part.Top x) (frame_kind.Routine heading xs) k h n o = absurd (no-model heading.result o)
part-at (part.Record x) (frame_kind.Declarations line xs) k h n o = here k _
part-at (part.Record x) (frame_kind.Routine heading xs) k h n o = absurd (no-declarations heading.result o)
part-at _ _ k h n o = let no : ⊥ = cc in absurd no

-- the block at the top, which is no loop, has one part more
pub adds-at : (frame : Frame) (k next : Stack) → is_loop_body (frame_place frame) ≡ false → Adds (frame ∷ k) false next → At k (place_after (frame_place frame)) next
adds-at frame k next h a = subst (λ z. At k (place_after (frame_place frame)) z) a.is (part-at a.part frame k h a.kind a.fits)

routine-no-loop : (result : Option BaseType) → is_loop_body (routine_place result) ≡ true → ⊥
routine-no-loop None h = cc
routine-no-loop (Some typ) h = cc

part-ends : (deep : ℕ) (x : Part) (frame : Frame) (k : Stack) (ps : List PieceForm) → Holds deep (frame ∷ k) ps → is_loop_body (frame_place frame) ≡ true → is_source x ≡ false → takes x (frame_place frame) ≡ true → Adds k false (add_part x (frame ∷ k))
part-ends deep (part.Statement x) (frame_kind.Forall line index) k ps held h n o = given k (part.Statement (statement_kind.Forall line index x)) held.4.there
part-ends deep (part.Statement x) (frame_kind.While line condition) k ps held h n o = given k (part.Statement (statement_kind.While line condition x)) held.4.there
part-ends deep x (frame_kind.Routine heading xs) k ps held h n o = absurd (routine-no-loop heading.result h)
part-ends deep _ _ k ps held h n o = let no : ⊥ = cc in absurd no

-- a loop ends with its statement
pub adds-ends : (deep : ℕ) (frame : Frame) (k next : Stack) (ps : List PieceForm) → Holds deep (frame ∷ k) ps → is_loop_body (frame_place frame) ≡ true → Adds (frame ∷ k) false next → Adds k false next
adds-ends deep frame k next ps held h a = subst (λ z. Adds k false z) a.is (part-ends deep a.part frame k ps held h a.kind a.fits)

-- ---- no more pieces

pub unfinished : (frame : Frame) (k : Stack) → is_end (frame_place frame) ≡ false → finished_tree (frame ∷ k) ≡ None
unfinished (frame_kind.End tree) k h = let no : ⊥ = cc in absurd no
unfinished _ k h = refl
