-- How large a tree is, and a piece of it: one for each node of an expression, and one for each
-- statement, arm, alternative, parameter, item, field group, block and routine. A source has as many
-- words and more.

use Rattle.std.specs.Prelude.{ℕ, ◌+◌, List, sum, map}
use Rattle.mos_tree.specs.Nodes.{nodes, nodes_in, nodes_in_index}
use Rattle.mos_tree.specs.declared.declaration.Dimension.{Dimension}
use Rattle.mos_tree.specs.declared.declaration.Dimension.TheVariants as dimension
use Rattle.mos_tree.specs.declared.declaration.TypeForm.{TypeForm}
use Rattle.mos_tree.specs.declared.declaration.TypeForm.TheVariants as typ
use Rattle.mos_tree.specs.declared.declaration.Parameter.{Parameter}
use Rattle.mos_tree.specs.declared.declaration.FieldGroup.{FieldGroup}
use Rattle.mos_tree.specs.declared.declaration.FormalGroup.{FormalGroup}
use Rattle.mos_tree.specs.declared.declaration.Item.{Item}
use Rattle.mos_tree.specs.declared.declaration.Item.TheVariants as item
use Rattle.mos_tree.specs.declared.statement.Reference.{Reference}
use Rattle.mos_tree.specs.declared.statement.Reference.TheVariants as reference
use Rattle.mos_tree.specs.declared.statement.Arm.{Arm}
use Rattle.mos_tree.specs.declared.statement.Alternative.{Alternative}
use Rattle.mos_tree.specs.declared.statement.Statement.{Statement}
use Rattle.mos_tree.specs.declared.statement.Statement.TheOpen as open_statement
use Rattle.mos_tree.specs.declared.statement.Statement.TheOpen.{Statement-F}
use Rattle.mos_tree.specs.declared.statement.Statement.TheFolds.{fold-Statement}
use Rattle.mos_tree.specs.declared.source.Declared.{Declared}
use Rattle.mos_tree.specs.declared.source.RoutinePart.{RoutinePart}
use Rattle.mos_tree.specs.declared.source.RoutinePart.TheVariants as part
use Rattle.mos_tree.specs.declared.source.Routine.{Routine}
use Rattle.mos_tree.specs.declared.source.Top.{Top}
use Rattle.mos_tree.specs.declared.source.Top.TheVariants as top
use Rattle.mos_tree.specs.declared.source.Tree.{Tree}
use Rattle.mos_tree.specs.declared.form.Form.{Form}
use Rattle.mos_tree.specs.declared.form.Form.TheVariants as form
use Rattle.mos_tree.specs.declared.form.Simple.{Simple}
use Rattle.mos_tree.specs.declared.form.Simple.TheVariants as simple
use Rattle.mos_tree.specs.declared.form.Keyword.{Keyword}
use Rattle.mos_tree.specs.declared.form.Keyword.TheVariants as keyword
use Rattle.mos_tree.specs.declared.form.ConditionKeyword.{ConditionKeyword}
use Rattle.mos_tree.specs.declared.form.ConditionKeyword.TheVariants as condition
use Rattle.mos_tree.specs.declared.form.PieceForm.{PieceForm}

-- ---- types and declarations

-- an index set of an array type is an expression
abbrev pub size_of_dimension : Dimension → ℕ
size_of_dimension dimension.Range = 0
size_of_dimension (dimension.Set member) = 0
size_of_dimension (dimension.IndexSet set) = nodes set

-- the nodes in a type
abbrev pub size_of_type : TypeForm → ℕ
size_of_type (typ.Base b) = 0
size_of_type typ.Range = 0
size_of_type (typ.Set b) = 0
size_of_type (typ.List b) = 0
size_of_type (typ.Array dynamic dimensions cell) = sum (map size_of_dimension dimensions)

-- a parameter with its default
abbrev pub size_of_parameter : Parameter → ℕ
size_of_parameter x = nodes x.default + 1

-- fields of one type
abbrev pub size_of_field : FieldGroup → ℕ
size_of_field x = size_of_type x.typ + 1

-- a constant, variables of one type, or a record
abbrev pub size_of_item : Item → ℕ
size_of_item (item.Constant line name value) = nodes value + 1
size_of_item (item.Variables line names typ) = size_of_type typ + 1
size_of_item (item.Record line name fields) = sum (map size_of_field fields) + 1

-- a block of declarations
abbrev pub size_of_declared : Declared → ℕ
size_of_declared x = sum (map size_of_item x.items) + 1

-- formals of one type
abbrev pub size_of_formal : FormalGroup → ℕ
size_of_formal x = size_of_type x.typ

-- the formals of a routine
abbrev pub size_of_formals : List FormalGroup → ℕ
size_of_formals formals = sum (map size_of_formal formals)

-- ---- statements

-- the indexes of a cell are expressions
abbrev pub size_of_reference : Reference → ℕ
size_of_reference (reference.Name name) = 0
size_of_reference (reference.Cell name all) = nodes_in all
size_of_reference (reference.Field name field) = 0
size_of_reference (reference.CellField name all field) = nodes_in all
size_of_reference reference.Returned = 0

-- an arm of `if`
abbrev pub size_of_arm : Arm ℕ → ℕ
size_of_arm arm = nodes arm.condition + sum arm.body + 1

-- an alternative of `case`
abbrev pub size_of_alternative : Alternative ℕ → ℕ
size_of_alternative x = nodes_in x.labels + x.body + 1

-- one statement, by the sizes of those in it
abbrev pub size_step : Statement-F ℕ → ℕ
size_step (open_statement.Assign line target operator value) = size_of_reference target + nodes value + 1
size_step (open_statement.Fill line name values) = nodes_in values + 1
size_step (open_statement.Call line name arguments) = nodes_in arguments + 1
size_step (open_statement.If line arms otherwise) = sum (map size_of_arm arms) + sum otherwise + 1
size_step (open_statement.Case line value alternatives otherwise) = nodes value + sum (map size_of_alternative alternatives) + sum otherwise + 1
size_step (open_statement.Forall line index body) = nodes_in_index index + body + 1
size_step (open_statement.While line condition body) = nodes condition + body + 1
size_step (open_statement.Repeat line body until_line condition) = sum body + nodes condition + 1
size_step (open_statement.Do line body) = sum body + 1
size_step (open_statement.Break line) = 1
size_step (open_statement.Next line) = 1
size_step (open_statement.Initializations line direction name labels) = nodes name + 1

-- a statement with all that stand in it
abbrev pub size_of_statement : Statement → ℕ
size_of_statement = fold-Statement ℕ size_step

-- ---- sources

-- what stands in a routine
abbrev pub size_of_part : RoutinePart → ℕ
size_of_part (part.Declarations declared) = size_of_declared declared
size_of_part (part.Statement statement) = size_of_statement statement

-- a routine with its heading
abbrev pub size_of_routine : Routine → ℕ
size_of_routine x = size_of_formals x.heading.formals + sum (map size_of_part x.parts) + 1

-- what stands in a model
abbrev pub size_of_top : Top → ℕ
size_of_top (top.Parameters line parameters) = sum (map size_of_parameter parameters) + 1
size_of_top (top.Declarations declared) = size_of_declared declared
size_of_top (top.Routine routine) = size_of_routine routine
size_of_top (top.Forward heading) = size_of_formals heading.formals + 1
size_of_top (top.Statement statement) = size_of_statement statement

-- a whole source
abbrev pub size_of_tree : Tree → ℕ
size_of_tree tree = sum (map size_of_top tree.tops)

-- ---- pieces

-- a statement of one piece
abbrev pub size_of_simple : Simple → ℕ
size_of_simple (simple.Assign target operator value) = size_of_reference target + nodes value + 1
size_of_simple (simple.Fill name values) = nodes_in values + 1
size_of_simple (simple.Call name arguments) = nodes_in arguments + 1
size_of_simple simple.Break = 1
size_of_simple simple.Next = 1

-- a reserved word that opens a block or a statement
abbrev pub size_of_keyword : Keyword → ℕ
size_of_keyword keyword.EndModel = 0
size_of_keyword keyword.Parameters = 1
size_of_keyword keyword.EndParameters = 0
size_of_keyword keyword.Declarations = 1
size_of_keyword keyword.EndDeclarations = 0
size_of_keyword keyword.EndRecord = 0
size_of_keyword keyword.EndProcedure = 0
size_of_keyword keyword.EndFunction = 0
size_of_keyword keyword.Else = 0
size_of_keyword keyword.EndIf = 0
size_of_keyword keyword.EndCase = 0
size_of_keyword keyword.Repeat = 1
size_of_keyword keyword.Do = 1
size_of_keyword keyword.EndDo = 0
size_of_keyword keyword.EndInitializations = 0

-- a word with a condition: `if` opens a statement and an arm, and `until` opens nothing
abbrev pub size_of_condition : ConditionKeyword → ℕ
size_of_condition condition.If = 2
size_of_condition condition.Elif = 1
size_of_condition condition.Case = 1
size_of_condition condition.While = 1
size_of_condition condition.Until = 0

-- what a piece of this form adds to the size of its tree, at most
abbrev pub size_of_form : Form → ℕ
size_of_form form.Unknown = 0
size_of_form (form.TooHigh kind) = 0
size_of_form (form.Keyword word) = size_of_keyword word
size_of_form (form.Model name) = 0
size_of_form (form.Uses modules) = 0
size_of_form (form.Options name) = 0
size_of_form (form.Definition name value) = nodes value + 1
size_of_form (form.Typed names typ) = size_of_type typ + 1
size_of_form (form.RecordOf name) = 1
size_of_form (form.Routine name formals result) = size_of_formals formals + 1
size_of_form (form.Forward name formals result) = size_of_formals formals + 1
size_of_form (form.Simple x) = size_of_simple x
size_of_form (form.Bare name) = 1
size_of_form (form.Guarded word x) = nodes x + size_of_condition word
size_of_form (form.Alternative labels) = nodes_in labels + 1
size_of_form (form.Forall index) = nodes_in_index index + 1
size_of_form (form.Initializations direction name) = nodes name + 1
size_of_form (form.Labels labels) = 0

-- pieces one behind the other
abbrev pub size_of_pieces : List PieceForm → ℕ
size_of_pieces pieces = sum (map (λ x. size_of_form x.form) pieces)
