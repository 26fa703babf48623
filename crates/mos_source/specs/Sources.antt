-- Declarations, routines and sources as they are written: their pieces, how deep their blocks go, and
-- their trees.

use Rattle.std.specs.Prelude.{◌≡◌, ℕ, ◌+◌, ◌≤◌, max, List, [], ◌∷◌, ◌++◌, map, codes, Option, Some, None}
use Rattle.mos_tree.specs.declared.expr.Expr.{Expr}
use Rattle.mos_tree.specs.declared.declaration.TypeForm.{TypeForm}
use Rattle.mos_tree.specs.declared.declaration.BaseType.{BaseType}
use Rattle.mos_tree.specs.declared.declaration.Parameter.{Parameter}
use Rattle.mos_tree.specs.declared.declaration.FieldGroup.{FieldGroup}
use Rattle.mos_tree.specs.declared.declaration.Item.{Item}
use Rattle.mos_tree.specs.declared.declaration.Item.TheVariants as item_kind
use Rattle.mos_tree.specs.declared.declaration.Heading.{Heading}
use Rattle.mos_tree.specs.declared.source.ModelName.{ModelName}
use Rattle.mos_tree.specs.declared.source.Head.{Head}
use Rattle.mos_tree.specs.declared.source.Head.TheVariants as head_kind
use Rattle.mos_tree.specs.declared.source.Declared.{Declared}
use Rattle.mos_tree.specs.declared.source.RoutinePart.{RoutinePart}
use Rattle.mos_tree.specs.declared.source.RoutinePart.TheVariants as routine_part
use Rattle.mos_tree.specs.declared.source.Top.{Top}
use Rattle.mos_tree.specs.declared.source.Top.TheVariants as top
use Rattle.mos_tree.specs.declared.source.Tree.{Tree}
use Rattle.mos_tree.specs.declared.form.Form.{Form}
use Rattle.mos_tree.specs.declared.form.Form.TheVariants as form_kind
use Rattle.mos_tree.specs.declared.form.Keyword.TheVariants as keyword
use Rattle.mos_tree.specs.declared.form.PieceForm.{PieceForm}
use Rattle.mos_tree.specs.Forms.{piece}
use Rattle.mos_source.specs.Statements.{WrittenStatement, spell, depth, tree}

-- items of `declarations`, the last one last
pub data Items : Type 0 where
  no_item : Items
  constant : Items → ℕ → List ℕ → Expr → Items
  variables : Items → ℕ → List (List ℕ) → TypeForm → Items
  record_type : Items → ℕ → List ℕ → List FieldGroup → ℕ → Items  -- with the line of `end-record`

-- what stands in a routine, the last one last
pub data Parts : Type 0 where
  no_part : Parts
  declares : Parts → ℕ → Items → ℕ → Parts  -- `declarations`, with the line of its end
  states : Parts → WrittenStatement → Parts

-- what stands in a model behind its heads, the last one last
pub data Tops : Type 0 where
  no_top : Tops
  sets : Tops → ℕ → List Parameter → ℕ → Tops  -- `parameters`, with the line of its end
  declares_top : Tops → ℕ → Items → ℕ → Tops
  defines : Tops → Heading → Parts → ℕ → Tops  -- a routine, with the line of its end
  announces : Tops → Heading → Tops  -- `forward`
  states_top : Tops → WrittenStatement → Tops

-- a source: `model` and its name, heads, and what stands behind them, with the line of `end-model`
pub record Source : Type 0 where
  pub line : ℕ
  pub name : ModelName
  pub heads : List Head
  pub tops : Tops
  pub end : ℕ

-- ---- pieces

-- the piece of a parameter
abbrev pub spell_parameter : Parameter → PieceForm
spell_parameter x = piece x.line (form_kind.Definition x.name x.default)

-- the piece of fields of one type
abbrev pub spell_field : FieldGroup → PieceForm
spell_field x = piece x.line (form_kind.Typed x.names x.typ)

-- the pieces of items
abbrev pub spell_items : Items → List PieceForm
spell_items no_item = []
spell_items (constant xs line name value) = spell_items xs ++ piece line (form_kind.Definition name value) ∷ []
spell_items (variables xs line names typ) = spell_items xs ++ piece line (form_kind.Typed names typ) ∷ []
spell_items (record_type xs line name fields end) = spell_items xs ++ piece line (form_kind.RecordOf name) ∷ (map spell_field fields ++ piece end (form_kind.Keyword keyword.EndRecord) ∷ [])

-- the pieces of a block of `declarations`
abbrev pub spell_declarations : ℕ → Items → ℕ → List PieceForm
spell_declarations line items end = piece line (form_kind.Keyword keyword.Declarations) ∷ (spell_items items ++ piece end (form_kind.Keyword keyword.EndDeclarations) ∷ [])

-- the pieces of what stands in a routine
abbrev pub spell_parts : Parts → List PieceForm
spell_parts no_part = []
spell_parts (declares xs line items end) = spell_parts xs ++ spell_declarations line items end
spell_parts (states xs w) = spell_parts xs ++ spell w

-- the form of the piece that heads a routine
abbrev pub heading_form : Heading → Form
heading_form x = form_kind.Routine x.name x.formals x.result

-- the form of the piece that ends one
abbrev pub end_form : Option BaseType → Form
end_form None = (form_kind.Keyword keyword.EndProcedure)
end_form (Some typ) = (form_kind.Keyword keyword.EndFunction)

-- the pieces of what stands in a model behind its heads
abbrev pub spell_tops : Tops → List PieceForm
spell_tops no_top = []
spell_tops (sets xs line parameters end) = spell_tops xs ++ piece line (form_kind.Keyword keyword.Parameters) ∷ (map spell_parameter parameters ++ piece end (form_kind.Keyword keyword.EndParameters) ∷ [])
spell_tops (declares_top xs line items end) = spell_tops xs ++ spell_declarations line items end
spell_tops (defines xs heading parts end) = spell_tops xs ++ piece heading.line (heading_form heading) ∷ (spell_parts parts ++ piece end (end_form heading.result) ∷ [])
spell_tops (announces xs heading) = spell_tops xs ++ piece heading.line (form_kind.Forward heading.name heading.formals heading.result) ∷ []
spell_tops (states_top xs w) = spell_tops xs ++ spell w

-- the one option
abbrev pub no_implicit : List ℕ
no_implicit = codes "noimplicit"

-- the one module
abbrev pub jobs_module : List ℕ
jobs_module = codes "mmjobs"

-- the piece of a head
abbrev pub spell_head : Head → PieceForm
spell_head (head_kind.Uses line modules) = piece line (form_kind.Uses modules)
spell_head (head_kind.NoImplicit line) = piece line (form_kind.Options no_implicit)

-- the pieces of a source
abbrev pub spell_source : Source → List PieceForm
spell_source x = piece x.line (form_kind.Model x.name) ∷ (map spell_head x.heads ++ (spell_tops x.tops ++ piece x.end (form_kind.Keyword keyword.EndModel) ∷ []))

-- ---- limits

-- a record is a block in `declarations`
abbrev pub depth_items : Items → ℕ
depth_items no_item = 0
depth_items (constant xs line name value) = depth_items xs
depth_items (variables xs line names typ) = depth_items xs
depth_items (record_type xs line name fields end) = max (depth_items xs) 1

-- how deep the blocks of a routine go
abbrev pub depth_parts : Parts → ℕ
depth_parts no_part = 0
depth_parts (declares xs line items end) = max (depth_parts xs) (1 + depth_items items)
depth_parts (states xs w) = max (depth_parts xs) (depth w)

-- how many blocks stand in one another at most, the model not counted
abbrev pub depth_tops : Tops → ℕ
depth_tops no_top = 0
depth_tops (sets xs line parameters end) = max (depth_tops xs) 1
depth_tops (declares_top xs line items end) = max (depth_tops xs) (1 + depth_items items)
depth_tops (defines xs heading parts end) = max (depth_tops xs) (1 + depth_parts parts)
depth_tops (announces xs heading) = depth_tops xs
depth_tops (states_top xs w) = max (depth_tops xs) (depth w)

-- each name is that of the one module
abbrev pub AreModules : List (List ℕ) → Type 0
AreModules [] = Unit {0}
AreModules (x ∷ xs) = (x ≡ jobs_module) × AreModules xs

-- the head names the one module alone
abbrev pub IsAllowed : Head → Type 0
IsAllowed (head_kind.Uses line modules) = AreModules modules
IsAllowed (head_kind.NoImplicit line) = Unit {0}

-- each head does
abbrev pub AreAllowed : List Head → Type 0
AreAllowed [] = Unit {0}
AreAllowed (x ∷ xs) = IsAllowed x × AreAllowed xs

-- ---- trees

-- the items of `declarations`
abbrev pub items_of : Items → List Item
items_of no_item = []
items_of (constant xs line name value) = items_of xs ++ item_kind.Constant line name value ∷ []
items_of (variables xs line names typ) = items_of xs ++ item_kind.Variables line names typ ∷ []
items_of (record_type xs line name fields end) = items_of xs ++ item_kind.Record line name fields ∷ []

-- a block of `declarations`
abbrev pub declaration_block : ℕ → Items → Declared
declaration_block line items = record { line = line; items = items_of items }

-- the parts of a routine
abbrev pub parts_of : Parts → List RoutinePart
parts_of no_part = []
parts_of (declares xs line items end) = parts_of xs ++ routine_part.Declarations (declaration_block line items) ∷ []
parts_of (states xs w) = parts_of xs ++ routine_part.Statement (tree w) ∷ []

-- the parts of a model
abbrev pub tops_of : Tops → List Top
tops_of no_top = []
tops_of (sets xs line parameters end) = tops_of xs ++ top.Parameters line parameters ∷ []
tops_of (declares_top xs line items end) = tops_of xs ++ top.Declarations (declaration_block line items) ∷ []
tops_of (defines xs heading parts end) = tops_of xs ++ top.Routine (record { heading = heading; parts = parts_of parts }) ∷ []
tops_of (announces xs heading) = tops_of xs ++ top.Forward heading ∷ []
tops_of (states_top xs w) = tops_of xs ++ top.Statement (tree w) ∷ []

-- the tree of a source
abbrev pub tree_of : Source → Tree
tree_of x = record { line = x.line; name = x.name; heads = x.heads; tops = tops_of x.tops }

-- ---- sentences

-- blocks may stand in one another so deep
abbrev pub limit : ℕ
limit = 100

-- a source whose blocks go at most so deep, with the one module and the one option
pub record IsWithin (deep : ℕ) (x : Source) : Type 0 where
  pub allowed : AreAllowed x.heads
  pub fits : depth_tops x.tops ≤ deep

-- the pieces are those of this source
pub record IsSource (pieces : List PieceForm) (x : Source) : Type 0 where
  pub exact : pieces ≡ spell_source x
  pub within : IsWithin limit x
