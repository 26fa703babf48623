-- As the code reads, apart from what the public clauses say: assignments to cells: indexes and a
-- value.

use Rattle.std.specs.Prelude.{ℕ, max, List, Option, Some, None}
use Rattle.mos_tree.specs.declared.expr.Expr.{Expr}
use Rattle.mos_tree.specs.declared.statement.Assignment.{Assignment}
use Rattle.mos_tree.specs.declared.statement.Reference.{Reference}
use Rattle.mos_tree.specs.declared.statement.Reference.TheVariants as reference
use Rattle.mos_scan.specs.declared.grammar_word.Word.{Word}
use Rattle.mos_expr.specs.Grammar.{Syntax, SyntaxList, height, heights, tree, trees, IsGrouped, spell, spell_list}
use Rattle.mos_tree.specs.declared.form.Form.{Form}
use Rattle.mos_form.specs.Phrases.{Target, to_cell, to_cell_field}
use Rattle.mos_expr.specs.Said.{AreSomeGrouped}
use Rattle.mos_form.specs.Telling.{Tells, by_height, assign_form, Writes}

-- a cell, or a field of the record in it
abbrev pub cell : List ℕ → List Expr → Option (List ℕ) → Reference
cell name indexes None = reference.Cell name indexes
cell name indexes (Some field) = reference.CellField name indexes field

-- what is assigned to, as it is written
abbrev pub cell_target : List ℕ → SyntaxList → Option (List ℕ) → Target
cell_target name indexes None = to_cell name indexes
cell_target name indexes (Some field) = to_cell_field name indexes field

-- indexes and a value
abbrev pub AreParts : List Word → List Word → SyntaxList × Syntax → Type 0
AreParts indexes value p = Writes AreSomeGrouped spell_list indexes p.0 × Writes IsGrouped spell value p.1

-- the height of the highest of them
abbrev pub parts_height : SyntaxList × Syntax → ℕ
parts_height p = max (heights p.0) (height p.1)

-- their trees
abbrev pub parts_trees : SyntaxList × Syntax → List Expr × Expr
parts_trees p = (trees p.0, tree p.1)

-- the assignment that they make
abbrev pub with_parts : List ℕ → Option (List ℕ) → Assignment → List Expr × Expr → Form
with_parts name field operator q = assign_form (cell name q.0 field) operator q.1

-- an assignment to a cell with these indexes and this value
abbrev pub TellsCell : List ℕ → Option (List ℕ) → Assignment → List Word → List Word → Form → Type 0
TellsCell name field operator indexes value = Tells (SyntaxList × Syntax) (AreParts indexes value) (λ p. by_height (parts_height p) (with_parts name field operator (parts_trees p)))
