-- Which pieces open, stand alone and close at a place.

use Rattle.std.proofs.Common.{◌≡◌, Bool, true, false, [], ◌∷◌, Option, Some, None, refl}
use Rattle.mos_tree.specs.declared.expr.Expr.{Expr}
use Rattle.mos_tree.specs.declared.expr.Expr.TheVariants as expr_kind
use Rattle.mos_tree.specs.declared.declaration.BaseType.{BaseType}
use Rattle.mos_tree.specs.declared.declaration.BaseType.TheVariants as base
use Rattle.mos_tree.specs.declared.declaration.TypeForm.TheVariants as type_form
use Rattle.mos_tree.specs.declared.statement.Alternative.{Alternative}
use Rattle.mos_tree.specs.declared.source.ModelName.TheVariants as called
use Rattle.mos_tree.specs.declared.statement.Direction.TheVariants as direction
use Rattle.mos_tree.specs.declared.form.Form.{Form}
use Rattle.mos_tree.specs.declared.form.Form.TheVariants as form_kind
use Rattle.mos_tree.specs.declared.form.ConditionKeyword.TheVariants as conditional
use Rattle.mos_tree.specs.declared.form.Keyword.TheVariants as keyword
use Rattle.mos_tree.specs.declared.form.Simple.TheVariants as simple
use Rattle.mos_tree.specs.declared.form.PieceKind.{PieceKind}
use Rattle.mos_tree.specs.declared.form.PieceKind.TheVariants as piece_kind
use Rattle.mos_source.specs.declared.frame.Frame.{Frame}
use Rattle.mos_source.specs.declared.frame.Frame.TheVariants as frame_kind
use Rattle.mos_source.specs.declared.place.Place.{Place}
use Rattle.mos_source.specs.declared.place.Place.TheVariants as place_kind
use Rattle.mos_source.specs.declared.place.Role.TheVariants.{Opens, Continues, StandsAlone, Closes}
use Rattle.mos_tree.specs.Forms.{piece_kind_of, routine_kind}
use Rattle.mos_source.specs.Limits.{own_limit}
use Rattle.mos_source.specs.Places.{takes_statements, role_at}
use Rattle.mos_source.specs.Sources.{no_implicit, end_form}
use Rattle.mos_source.specs.Machine.{Stack, frame_place, routine_place, place_of}
use Rattle.mos_source.proofs.Held.{is_model, takes_declarations, is_declarations}

-- ---- a piece of each kind

abbrev pub sample : PieceKind → Form
sample piece_kind.Unknown = form_kind.Unknown
sample piece_kind.Model = form_kind.Model (called.Named [])
sample piece_kind.Uses = form_kind.Uses []
sample piece_kind.Options = form_kind.Options no_implicit
sample piece_kind.EndModel = form_kind.Keyword keyword.EndModel
sample piece_kind.Parameters = form_kind.Keyword keyword.Parameters
sample piece_kind.EndParameters = form_kind.Keyword keyword.EndParameters
sample piece_kind.Declarations = form_kind.Keyword keyword.Declarations
sample piece_kind.EndDeclarations = form_kind.Keyword keyword.EndDeclarations
sample piece_kind.Definition = form_kind.Definition [] expr_kind.Returned
sample piece_kind.Typed = form_kind.Typed [] type_form.Range
sample piece_kind.RecordOf = form_kind.RecordOf []
sample piece_kind.EndRecord = form_kind.Keyword keyword.EndRecord
sample piece_kind.Procedure = form_kind.Routine [] [] None
sample piece_kind.Function = form_kind.Routine [] [] (Some base.Integer)
sample piece_kind.EndProcedure = form_kind.Keyword keyword.EndProcedure
sample piece_kind.EndFunction = form_kind.Keyword keyword.EndFunction
sample piece_kind.Forward = form_kind.Forward [] [] None
sample piece_kind.Simple = form_kind.Simple simple.Break
sample piece_kind.Bare = form_kind.Bare []
sample piece_kind.If = form_kind.Guarded conditional.If expr_kind.Returned
sample piece_kind.Elif = form_kind.Guarded conditional.Elif expr_kind.Returned
sample piece_kind.Else = form_kind.Keyword keyword.Else
sample piece_kind.EndIf = form_kind.Keyword keyword.EndIf
sample piece_kind.Case = form_kind.Guarded conditional.Case expr_kind.Returned
sample piece_kind.Alternative = form_kind.Alternative []
sample piece_kind.EndCase = form_kind.Keyword keyword.EndCase
sample piece_kind.Forall = form_kind.Forall (record { groups = []; condition = None })
sample piece_kind.While = form_kind.Guarded conditional.While expr_kind.Returned
sample piece_kind.Repeat = form_kind.Keyword keyword.Repeat
sample piece_kind.Until = form_kind.Guarded conditional.Until expr_kind.Returned
sample piece_kind.Do = form_kind.Keyword keyword.Do
sample piece_kind.EndDo = form_kind.Keyword keyword.EndDo
sample piece_kind.Initializations = form_kind.Initializations direction.From expr_kind.Returned
sample piece_kind.Labels = form_kind.Labels []
sample piece_kind.EndInitializations = form_kind.Keyword keyword.EndInitializations

pub sample-kind : (x : PieceKind) → piece_kind_of (sample x) ≡ x
sample-kind piece_kind.Unknown = refl
sample-kind _ = refl

pub sample-limit : (x : PieceKind) → own_limit (sample x) ≡ None
sample-limit piece_kind.Unknown = refl
sample-limit _ = refl

-- ---- what opens where

abbrev pub is_start : Place → Bool
is_start place_kind.Start = true
is_start _ = false

-- the places at which a piece of this kind opens a block
abbrev pub opens_at : PieceKind → Place → Bool
opens_at piece_kind.Model = is_start
opens_at piece_kind.Parameters = is_model
opens_at piece_kind.Procedure = is_model
opens_at piece_kind.Function = is_model
opens_at piece_kind.Declarations = takes_declarations
opens_at piece_kind.RecordOf = is_declarations
opens_at piece_kind.If = takes_statements
opens_at piece_kind.Case = takes_statements
opens_at piece_kind.Forall = takes_statements
opens_at piece_kind.While = takes_statements
opens_at piece_kind.Repeat = takes_statements
opens_at piece_kind.Do = takes_statements
opens_at piece_kind.Initializations = takes_statements
opens_at _ = λ place. false

pub opens-there : (place : Place) (x : PieceKind) → role_at place x ≡ Some Opens → opens_at x place ≡ true
unfolding role_at
opens-there place_kind.Start piece_kind.Unknown r = cc
opens-there _ piece_kind.Unknown r = cc
opens-there _ _ r = cc

-- `model` opens before everything
pub starts : (k : Stack) → is_start (place_of k) ≡ true → k ≡ []
starts [] r = refl
starts (frame_kind.Routine heading xs ∷ k) r = absurd (no-start heading.result r)
  where
    no-start : (typ : Option BaseType) → is_start (routine_place typ) ≡ true → ⊥
    no-start None r = cc
    no-start (Some t) r = cc
starts (_ ∷ k) r = let no : ⊥ = cc in absurd no

pub routine-there : (place : Place) (typ : Option BaseType) → opens_at (routine_kind typ) place ≡ true → is_model place ≡ true
routine-there place None o = o
routine-there place (Some t) o = o

-- ---- what stands alone where

abbrev pub stands_at : PieceKind → Place → Bool
stands_at piece_kind.Simple = takes_statements
stands_at piece_kind.Bare = takes_statements
stands_at piece_kind.Forward = is_model
stands_at _ = λ place. false

pub stands-there : (place : Place) (x : PieceKind) → role_at place x ≡ Some StandsAlone → stands_at x place ≡ true
unfolding role_at
stands-there place_kind.Start piece_kind.Unknown r = cc
stands-there _ piece_kind.Unknown r = cc
stands-there _ _ r = cc

pub no-routine : (place : Place) (typ : Option BaseType) → stands_at (routine_kind typ) place ≡ true → ⊥
no-routine place None o = cc
no-routine place (Some x) o = cc

-- ---- what closes where

-- the piece that closes the block at the place; `else` closes none
abbrev pub end_kind : Place → PieceKind
end_kind place_kind.Heads = piece_kind.EndModel
end_kind place_kind.Tops = piece_kind.EndModel
end_kind place_kind.Parameters = piece_kind.EndParameters
end_kind place_kind.Declarations = piece_kind.EndDeclarations
end_kind place_kind.Record = piece_kind.EndRecord
end_kind place_kind.Procedure = piece_kind.EndProcedure
end_kind place_kind.Function = piece_kind.EndFunction
end_kind place_kind.IfArm = piece_kind.EndIf
end_kind place_kind.IfElse = piece_kind.EndIf
end_kind place_kind.Case = piece_kind.EndCase
end_kind place_kind.CaseElse = piece_kind.EndCase
end_kind place_kind.Repeat = piece_kind.Until
end_kind place_kind.Do = piece_kind.EndDo
end_kind place_kind.Initializations = piece_kind.EndInitializations
end_kind _ = piece_kind.Else

-- a block is closed at the place
abbrev pub closes_there : Place → Bool
closes_there place_kind.Start = false
closes_there place_kind.CaseArm = false
closes_there place_kind.LoopBody = false
closes_there place_kind.End = false
closes_there _ = true

pub ends : (place : Place) → closes_there place ≡ true → role_at place (end_kind place) ≡ Some Closes
unfolding role_at
ends place_kind.Start h = cc
ends _ h = cc

pub none-closes : (place : Place) (x : PieceKind) → closes_there place ≡ false → role_at place x ≡ Some Closes → ⊥
unfolding role_at
none-closes place_kind.Start piece_kind.Unknown n r = cc
none-closes _ piece_kind.Unknown n r = cc
none-closes _ _ n r = cc

abbrev pub is_repeat : Place → Bool
is_repeat place_kind.Repeat = true
is_repeat _ = false

pub closes-word : (place : Place) (form : Form) → is_repeat place ≡ false → own_limit form ≡ None → role_at place (piece_kind_of form) ≡ Some Closes → form ≡ sample (end_kind place)
unfolding role_at
closes-word place_kind.Start (form_kind.Keyword keyword.Else) n o r = cc
closes-word _ (form_kind.Keyword keyword.Else) n o r = cc
closes-word _ (form_kind.Routine name formals None) n o r = cc
closes-word _ (form_kind.Routine name formals (Some typ)) n o r = cc
closes-word _ (form_kind.Guarded conditional.If x) n o r = cc
closes-word _ _ n o r = cc

pub closes-repeat : (form : Form) → own_limit form ≡ None → role_at place_kind.Repeat (piece_kind_of form) ≡ Some Closes → (c : Expr) × (form ≡ form_kind.Guarded conditional.Until c)
unfolding role_at
closes-repeat (form_kind.Guarded conditional.Until c) o r = (c, refl)
closes-repeat (form_kind.Routine n fs None) o r = let no : ⊥ = cc in absurd no
closes-repeat (form_kind.Routine n fs (Some t)) o r = let no : ⊥ = cc in absurd no
closes-repeat (form_kind.Keyword keyword.Else) o r = let no : ⊥ = cc in absurd no
closes-repeat _ o r = let no : ⊥ = cc in absurd no

pub closes-routine : (typ : Option BaseType) (form : Form) → own_limit form ≡ None → role_at (routine_place typ) (piece_kind_of form) ≡ Some Closes → form ≡ end_form typ
closes-routine None form o r = closes-word place_kind.Procedure form refl o r
closes-routine (Some t) form o r = closes-word place_kind.Function form refl o r

pub ends-routine : (typ : Option BaseType) → role_at (routine_place typ) (piece_kind_of (end_form typ)) ≡ Some Closes
ends-routine None = ends place_kind.Procedure refl
ends-routine (Some t) = ends place_kind.Function refl

pub end-limit : (typ : Option BaseType) → own_limit (end_form typ) ≡ None
end-limit None = refl
end-limit (Some t) = refl

-- ---- what goes on where

abbrev pub goes_there : Place → Bool
goes_there place_kind.Heads = true
goes_there place_kind.Parameters = true
goes_there place_kind.Declarations = true
goes_there place_kind.Record = true
goes_there place_kind.IfArm = true
goes_there place_kind.Case = true
goes_there place_kind.Initializations = true
goes_there _ = false

pub none-goes : (place : Place) (x : PieceKind) → goes_there place ≡ false → role_at place x ≡ Some Continues → ⊥
unfolding role_at
none-goes place_kind.Start piece_kind.Unknown n r = cc
none-goes _ piece_kind.Unknown n r = cc
none-goes _ _ n r = cc

routine-goes : (typ : Option BaseType) → goes_there (routine_place typ) ≡ false
routine-goes None = refl
routine-goes (Some x) = refl

-- the blocks that go on with the piece
abbrev pub goes_on : Frame → Form → Bool
goes_on (frame_kind.Heads at name xs) (form_kind.Uses modules) = true
goes_on (frame_kind.Heads at name xs) (form_kind.Options x) = true
goes_on (frame_kind.Parameters at xs) (form_kind.Definition name value) = true
goes_on (frame_kind.Declarations at xs) (form_kind.Definition name value) = true
goes_on (frame_kind.Declarations at xs) (form_kind.Typed names typ) = true
goes_on (frame_kind.Record at name xs) (form_kind.Typed names typ) = true
goes_on (frame_kind.IfArm first arms at c body) (form_kind.Guarded conditional.Elif x) = true
goes_on (frame_kind.IfArm first arms at c body) (form_kind.Keyword keyword.Else) = true
goes_on (frame_kind.Case at v xs) (form_kind.Alternative x) = true
goes_on (frame_kind.Case at v xs) (form_kind.Keyword keyword.Else) = true
goes_on (frame_kind.Initializations at d n xs) (form_kind.Bare x) = true
goes_on (frame_kind.Initializations at d n xs) (form_kind.Labels x) = true
goes_on _ _ = false

pub goes-there : (frame : Frame) (form : Form) → own_limit form ≡ None → role_at (frame_place frame) (piece_kind_of form) ≡ Some Continues → goes_on frame form ≡ true
unfolding role_at
goes-there (frame_kind.Routine heading xs) form o r = absurd (none-goes (routine_place heading.result) (piece_kind_of form) (routine-goes heading.result) r)
goes-there (frame_kind.Heads at name xs) (form_kind.Routine x y None) o r = cc
goes-there _ (form_kind.Routine x y None) o r = cc
goes-there _ (form_kind.Routine x y (Some z)) o r = cc
goes-there _ (form_kind.Keyword keyword.EndIf) o r = cc
goes-there _ (form_kind.Guarded conditional.If x) o r = cc
goes-there _ _ o r = cc
