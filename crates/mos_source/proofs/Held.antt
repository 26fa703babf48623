-- What was read: the pieces that a stack of open blocks stands for.

use Rattle.std.proofs.Common.{◌≡◌, ℕ, ◌+◌, ◌≤◌, Bool, true, false, List, [], ◌∷◌, ◌++◌, length, map, Option, Some, None}
use Rattle.mos_tree.specs.declared.expr.Expr.{Expr}
use Rattle.mos_tree.specs.declared.declaration.BaseType.{BaseType}
use Rattle.mos_tree.specs.declared.declaration.Parameter.{Parameter}
use Rattle.mos_tree.specs.declared.declaration.FieldGroup.{FieldGroup}
use Rattle.mos_tree.specs.declared.declaration.Item.{Item}
use Rattle.mos_tree.specs.declared.declaration.Heading.{Heading}
use Rattle.mos_tree.specs.declared.statement.Statement.{Statement}
use Rattle.mos_tree.specs.declared.statement.Arm.{Arm}
use Rattle.mos_tree.specs.declared.statement.Alternative.{Alternative}
use Rattle.mos_tree.specs.declared.statement.LabelGroup.{LabelGroup}
use Rattle.mos_tree.specs.declared.source.ModelName.{ModelName}
use Rattle.mos_tree.specs.declared.source.Head.{Head}
use Rattle.mos_tree.specs.declared.source.RoutinePart.{RoutinePart}
use Rattle.mos_tree.specs.declared.source.Top.{Top}
use Rattle.mos_tree.specs.declared.source.Tree.{Tree}
use Rattle.mos_tree.specs.declared.form.Form.TheVariants as form_kind
use Rattle.mos_tree.specs.declared.form.ConditionKeyword.TheVariants as conditional
use Rattle.mos_tree.specs.declared.form.Keyword.TheVariants as keyword
use Rattle.mos_tree.specs.declared.form.PieceForm.{PieceForm}
use Rattle.mos_source.specs.declared.frame.Frame.{Frame}
use Rattle.mos_source.specs.declared.frame.Frame.TheVariants as frame_kind
use Rattle.mos_source.specs.declared.place.Place.{Place}
use Rattle.mos_source.specs.declared.place.Place.TheVariants as place_kind
use Rattle.mos_tree.specs.Forms.{piece}
use Rattle.mos_source.specs.Places.{takes_statements}
use Rattle.mos_source.specs.Statements.{Rows, Block, Arms, Alternatives, arm_form, spell_rows, spell_block, spell_arms, spell_alternatives, depth_block, depth_arms, depth_alternatives, label_groups, first_line, arm_of, trees, trees_of_arms, trees_of_alternatives}
use Rattle.mos_source.specs.Sources.{Items, Parts, Tops, Source, spell_parameter, spell_field, spell_items, spell_parts, heading_form, spell_tops, spell_head, spell_source, depth_items, depth_parts, depth_tops, AreAllowed, IsWithin, items_of, parts_of, tops_of, tree_of}
use Rattle.mos_source.specs.Machine.{Stack, routine_place, place_of}

-- the top of a model
abbrev pub is_model : Place → Bool
is_model place_kind.Heads = true
is_model place_kind.Tops = true
is_model _ = false

abbrev pub takes_declarations : Place → Bool
takes_declarations place_kind.Heads = true
takes_declarations place_kind.Tops = true
takes_declarations place_kind.Procedure = true
takes_declarations place_kind.Function = true
takes_declarations _ = false

abbrev pub is_declarations : Place → Bool
is_declarations place_kind.Declarations = true
is_declarations _ = false

pub no-model : (typ : Option BaseType) → is_model (routine_place typ) ≡ true → ⊥
no-model None e = cc
no-model (Some x) e = cc

pub no-declarations : (typ : Option BaseType) → is_declarations (routine_place typ) ≡ true → ⊥
no-declarations None e = cc
no-declarations (Some x) e = cc

pub record HeldParameters (deep : ℕ) (k : Stack) (l : ℕ) (xs : List Parameter) (own : List PieceForm) : Type 0 where
  pub there : is_model (place_of k) ≡ true
  pub fits : length k ≤ deep
  pub exact : own ≡ piece l (form_kind.Keyword keyword.Parameters) ∷ map spell_parameter xs

pub record HeldDeclarations (deep : ℕ) (k : Stack) (l : ℕ) (xs : List Item) (own : List PieceForm) : Type 0 where
  pub there : takes_declarations (place_of k) ≡ true
  pub items : Items
  pub are : xs ≡ items_of items
  pub fits : depth_items items + length k ≤ deep
  pub exact : own ≡ piece l (form_kind.Keyword keyword.Declarations) ∷ spell_items items

pub record HeldRecord (deep : ℕ) (k : Stack) (l : ℕ) (name : List ℕ) (xs : List FieldGroup) (own : List PieceForm) : Type 0 where
  pub there : is_declarations (place_of k) ≡ true
  pub fits : length k ≤ deep
  pub exact : own ≡ piece l (form_kind.RecordOf name) ∷ map spell_field xs

pub record HeldRoutine (deep : ℕ) (k : Stack) (heading : Heading) (xs : List RoutinePart) (own : List PieceForm) : Type 0 where
  pub there : is_model (place_of k) ≡ true
  pub parts : Parts
  pub are : xs ≡ parts_of parts
  pub fits : depth_parts parts + length k ≤ deep
  pub exact : own ≡ piece heading.line (heading_form heading) ∷ spell_parts parts

pub record HeldIfArm (deep : ℕ) (k : Stack) (first : ℕ) (arms : List (Arm Statement)) (l : ℕ) (c : Expr) (body : List Statement) (own : List PieceForm) : Type 0 where
  pub there : takes_statements (place_of k) ≡ true
  pub before : Arms
  pub block : Block
  pub line : first ≡ first_line before l
  pub are : arms ≡ trees_of_arms before
  pub body_is : body ≡ trees block
  pub fits : depth_arms before + length k ≤ deep
  pub fits_body : depth_block block + length k ≤ deep
  pub exact : own ≡ spell_arms before ++ piece l (arm_form before c) ∷ spell_block block

pub record HeldIfElse (deep : ℕ) (k : Stack) (first : ℕ) (arms : List (Arm Statement)) (body : List Statement) (own : List PieceForm) : Type 0 where
  pub there : takes_statements (place_of k) ≡ true
  pub before : Arms
  pub last : ℕ
  pub condition : Expr
  pub guarded : Block
  pub at : ℕ
  pub block : Block
  pub line : first ≡ first_line before last
  pub are : arms ≡ trees_of_arms before ++ arm_of last condition (trees guarded) ∷ []
  pub body_is : body ≡ trees block
  pub fits : depth_arms before + length k ≤ deep
  pub fits_guarded : depth_block guarded + length k ≤ deep
  pub fits_body : depth_block block + length k ≤ deep
  pub exact : own ≡ (spell_arms before ++ piece last (arm_form before condition) ∷ spell_block guarded) ++ piece at (form_kind.Keyword keyword.Else) ∷ spell_block block

pub record HeldCase (deep : ℕ) (k : Stack) (l : ℕ) (v : Expr) (xs : List (Alternative Statement)) (own : List PieceForm) : Type 0 where
  pub there : takes_statements (place_of k) ≡ true
  pub alternatives : Alternatives
  pub are : xs ≡ trees_of_alternatives alternatives
  pub fits : depth_alternatives alternatives + length k ≤ deep
  pub exact : own ≡ piece l (form_kind.Guarded conditional.Case v) ∷ spell_alternatives alternatives

pub record HeldCaseArm (deep : ℕ) (k : Stack) (l : ℕ) (v : Expr) (xs : List (Alternative Statement)) (at : ℕ) (labels : List Expr) (own : List PieceForm) : Type 0 where
  pub there : takes_statements (place_of k) ≡ true
  pub alternatives : Alternatives
  pub are : xs ≡ trees_of_alternatives alternatives
  pub fits : depth_alternatives alternatives + length k ≤ deep
  pub exact : own ≡ piece l (form_kind.Guarded conditional.Case v) ∷ (spell_alternatives alternatives ++ piece at (form_kind.Alternative labels) ∷ [])

pub record HeldCaseElse (deep : ℕ) (k : Stack) (l : ℕ) (v : Expr) (xs : List (Alternative Statement)) (body : List Statement) (own : List PieceForm) : Type 0 where
  pub there : takes_statements (place_of k) ≡ true
  pub alternatives : Alternatives
  pub at : ℕ
  pub block : Block
  pub are : xs ≡ trees_of_alternatives alternatives
  pub body_is : body ≡ trees block
  pub fits : depth_alternatives alternatives + length k ≤ deep
  pub fits_body : depth_block block + length k ≤ deep
  pub exact : own ≡ piece l (form_kind.Guarded conditional.Case v) ∷ (spell_alternatives alternatives ++ piece at (form_kind.Keyword keyword.Else) ∷ spell_block block)

pub record HeldLoop (deep : ℕ) (k : Stack) (x : PieceForm) (own : List PieceForm) : Type 0 where
  pub there : takes_statements (place_of k) ≡ true
  pub fits : length k ≤ deep
  pub exact : own ≡ x ∷ []

pub record HeldBlock (deep : ℕ) (k : Stack) (x : PieceForm) (body : List Statement) (own : List PieceForm) : Type 0 where
  pub there : takes_statements (place_of k) ≡ true
  pub block : Block
  pub body_is : body ≡ trees block
  pub fits : depth_block block + length k ≤ deep
  pub exact : own ≡ x ∷ spell_block block

pub record HeldRows (deep : ℕ) (k : Stack) (x : PieceForm) (groups : List LabelGroup) (own : List PieceForm) : Type 0 where
  pub there : takes_statements (place_of k) ≡ true
  pub rows : Rows
  pub are : groups ≡ label_groups rows
  pub fits : length k ≤ deep
  pub exact : own ≡ x ∷ spell_rows rows

-- the pieces of the innermost block, behind those of the blocks round it
abbrev pub HeldOwn : ℕ → Frame → Stack → List PieceForm → Type 0
HeldOwn deep (frame_kind.Parameters l xs) k own = HeldParameters deep k l xs own
HeldOwn deep (frame_kind.Declarations l xs) k own = HeldDeclarations deep k l xs own
HeldOwn deep (frame_kind.Record l name xs) k own = HeldRecord deep k l name xs own
HeldOwn deep (frame_kind.Routine heading xs) k own = HeldRoutine deep k heading xs own
HeldOwn deep (frame_kind.IfArm first arms l c body) k own = HeldIfArm deep k first arms l c body own
HeldOwn deep (frame_kind.IfElse first arms body) k own = HeldIfElse deep k first arms body own
HeldOwn deep (frame_kind.Case l v xs) k own = HeldCase deep k l v xs own
HeldOwn deep (frame_kind.CaseArm l v xs at labels) k own = HeldCaseArm deep k l v xs at labels own
HeldOwn deep (frame_kind.CaseElse l v xs body) k own = HeldCaseElse deep k l v xs body own
HeldOwn deep (frame_kind.Forall l index) k own = HeldLoop deep k (piece l (form_kind.Forall index)) own
HeldOwn deep (frame_kind.While l c) k own = HeldLoop deep k (piece l (form_kind.Guarded conditional.While c)) own
HeldOwn deep (frame_kind.Repeat l body) k own = HeldBlock deep k (piece l (form_kind.Keyword keyword.Repeat)) body own
HeldOwn deep (frame_kind.Do l body) k own = HeldBlock deep k (piece l (form_kind.Keyword keyword.Do)) body own
HeldOwn deep (frame_kind.Initializations l d e rows) k own = HeldRows deep k (piece l (form_kind.Initializations d e)) rows own
HeldOwn deep _ k own = ⊥

pub record HeldHeads (deep : ℕ) (k : Stack) (l : ℕ) (name : ModelName) (heads : List Head) (pieces : List PieceForm) : Type 0 where
  pub alone : k ≡ []
  pub allowed : AreAllowed heads
  pub exact : pieces ≡ piece l (form_kind.Model name) ∷ map spell_head heads

pub record HeldTops (deep : ℕ) (k : Stack) (l : ℕ) (name : ModelName) (heads : List Head) (xs : List Top) (pieces : List PieceForm) : Type 0 where
  pub alone : k ≡ []
  pub allowed : AreAllowed heads
  pub tops : Tops
  pub are : xs ≡ tops_of tops
  pub fits : depth_tops tops ≤ deep
  pub exact : pieces ≡ piece l (form_kind.Model name) ∷ (map spell_head heads ++ spell_tops tops)

pub record HeldEnd (deep : ℕ) (k : Stack) (t : Tree) (pieces : List PieceForm) : Type 0 where
  pub alone : k ≡ []
  pub source : Source
  pub within : IsWithin deep source
  pub exact : pieces ≡ spell_source source
  pub is : t ≡ tree_of source

abbrev pub Holds : ℕ → Stack → List PieceForm → Type 0
Holds deep [] pieces = pieces ≡ []
Holds deep (frame_kind.Heads l name heads ∷ k) pieces = HeldHeads deep k l name heads pieces
Holds deep (frame_kind.Tops l name heads xs ∷ k) pieces = HeldTops deep k l name heads xs pieces
Holds deep (frame_kind.End t ∷ k) pieces = HeldEnd deep k t pieces
Holds deep (frame ∷ k) pieces = (before : List PieceForm) × (own : List PieceForm) × Holds deep k before × (pieces ≡ before ++ own) × HeldOwn deep frame k own
