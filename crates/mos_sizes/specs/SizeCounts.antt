-- The size count of a source: 24 for the model, 16 for each node of an expression, 24 for each statement, 24 for each name that is
-- declared and 8 for each label of `initializations`.

use Rattle.std.specs.Prelude.{ℕ, ◌+◌, ◌*◌, ◌-◌, ◌^◌, min, List, sum, map, length, Option, Some, None}
use Rattle.mos_tree.specs.Children.{in_index}
use Rattle.mos_tree.specs.declared.expr.Expr.{Expr}
use Rattle.mos_tree.specs.declared.expr.Group.{Group}
use Rattle.mos_tree.specs.declared.expr.Index.{Index}
use Rattle.mos_tree.specs.declared.expr.Expr.TheOpen.{Expr-F, Integer, Text, Truth, Name, Returned, Call, Field, CallField, Set, List as ListOf, If, Convert, Unary, Binary, Aggregate, Count}
use Rattle.mos_tree.specs.declared.expr.Expr.TheFolds.{fold-Expr}
use Rattle.mos_tree.specs.declared.declaration.Dimension.{Dimension}
use Rattle.mos_tree.specs.declared.declaration.Dimension.TheVariants as dimension
use Rattle.mos_tree.specs.declared.declaration.TypeForm.{TypeForm}
use Rattle.mos_tree.specs.declared.declaration.TypeForm.TheVariants as typ
use Rattle.mos_tree.specs.declared.declaration.Parameter.{Parameter}
use Rattle.mos_tree.specs.declared.declaration.FieldGroup.{FieldGroup}
use Rattle.mos_tree.specs.declared.declaration.FormalGroup.{FormalGroup}
use Rattle.mos_tree.specs.declared.declaration.Item.{Item}
use Rattle.mos_tree.specs.declared.declaration.Item.TheVariants as item
use Rattle.mos_tree.specs.declared.statement.Reference.{Reference}
use Rattle.mos_tree.specs.declared.statement.Reference.TheVariants as reference
use Rattle.mos_tree.specs.declared.statement.LabelGroup.{LabelGroup}
use Rattle.mos_tree.specs.declared.statement.Arm.{Arm}
use Rattle.mos_tree.specs.declared.statement.Alternative.{Alternative}
use Rattle.mos_tree.specs.declared.statement.Statement.{Statement}
use Rattle.mos_tree.specs.declared.statement.Statement.TheOpen as st
use Rattle.mos_tree.specs.declared.statement.Statement.TheOpen.{Statement-F}
use Rattle.mos_tree.specs.declared.statement.Statement.TheFolds.{fold-Statement}
use Rattle.mos_tree.specs.declared.source.RoutinePart.{RoutinePart}
use Rattle.mos_tree.specs.declared.source.RoutinePart.TheVariants as part
use Rattle.mos_tree.specs.declared.source.Top.{Top}
use Rattle.mos_tree.specs.declared.source.Top.TheVariants as top
use Rattle.mos_checked.specs.declared.checked.Variable.{Variable}
use Rattle.mos_checked.specs.declared.checked.CheckedRoutine.{CheckedRoutine}

-- ---- expressions

-- a group of index names is a node, and each name is declared
abbrev pub group_size : Group ℕ → ℕ
group_size g = g.set + 16 + 24 * length g.names

-- groups of index names
abbrev pub groups_size : List (Group ℕ) → ℕ
groups_size groups = sum (map group_size groups)

-- a condition, where there is one
abbrev pub condition_size : Option ℕ → ℕ
condition_size None = 0
condition_size (Some n) = n

-- what a loop or an aggregate goes over
abbrev pub index_size : Index ℕ → ℕ
index_size index = groups_size index.groups + condition_size index.condition

-- an expression, by those in it
abbrev pub expr_step : Expr-F ℕ → ℕ
expr_step (Integer n) = 16
expr_step (Text text) = 16
expr_step (Truth b) = 16
expr_step (Name name) = 16
expr_step Returned = 16
expr_step (Call name all) = sum all + 16
expr_step (Field name field) = 16
expr_step (CallField name all field) = sum all + 16
expr_step (Set all) = sum all + 16
expr_step (ListOf all) = sum all + 16
expr_step (If a b c) = a + b + c + 16
expr_step (Convert to a) = a + 16
expr_step (Unary op a) = a + 16
expr_step (Binary op a b) = a + b + 16
expr_step (Aggregate op index body) = index_size index + body + 16
expr_step (Count index) = index_size index + 16

-- an expression
abbrev pub expr_size : Expr → ℕ
expr_size = fold-Expr ℕ expr_step

-- several expressions
abbrev pub exprs_size : List Expr → ℕ
exprs_size all = sum (map expr_size all)

-- what a loop or an aggregate goes over, by its expressions
abbrev pub loop_size : Index Expr → ℕ
loop_size index = index_size (in_index expr_size index)

-- ---- declarations

-- an index of an array type
abbrev pub dimension_size : Dimension → ℕ
dimension_size (dimension.IndexSet set) = expr_size set
dimension_size _ = 0

-- a type, as it is written
abbrev pub type_size : TypeForm → ℕ
type_size (typ.Array dynamic dimensions cell) = sum (map dimension_size dimensions)
type_size _ = 0

-- a parameter
abbrev pub parameter_size : Parameter → ℕ
parameter_size x = expr_size x.default + 24

-- fields of one type
abbrev pub field_size : FieldGroup → ℕ
field_size x = type_size x.typ + 24 * length x.names

-- an item of a block of declarations; variables are counted with those that are declared by their first assignment
abbrev pub item_size : Item → ℕ
item_size (item.Constant line name value) = expr_size value + 24
item_size (item.Variables line names typ) = type_size typ
item_size (item.Record line name fields) = sum (map field_size fields) + 24

-- a block of declarations
abbrev pub items_size : List Item → ℕ
items_size items = sum (map item_size items)

-- the types of formals
abbrev pub formal_types_size : List FormalGroup → ℕ
formal_types_size groups = sum (map (λ g. type_size g.typ) groups)

-- formals of one type, with their names
abbrev pub formal_size : FormalGroup → ℕ
formal_size g = type_size g.typ + 24 * length g.names

-- formals with their names
abbrev pub formals_size : List FormalGroup → ℕ
formals_size groups = sum (map formal_size groups)

-- ---- statements

-- the left side of an assignment is no node, but its indexes are
abbrev pub reference_size : Reference → ℕ
reference_size (reference.Cell name all) = exprs_size all
reference_size (reference.CellField name all field) = exprs_size all
reference_size _ = 0

-- an arm of `if`
abbrev pub arm_size : Arm ℕ → ℕ
arm_size arm = expr_size arm.condition + sum arm.body

-- the arms of `if`
abbrev pub arms_size : List (Arm ℕ) → ℕ
arms_size arms = sum (map arm_size arms)

-- an alternative of `case`
abbrev pub alternative_size : Alternative ℕ → ℕ
alternative_size x = exprs_size x.labels + x.body

-- the alternatives of `case`
abbrev pub alternatives_size : List (Alternative ℕ) → ℕ
alternatives_size all = sum (map alternative_size all)

-- the labels of `initializations`
abbrev pub labels_size : List LabelGroup → ℕ
labels_size groups = sum (map (λ g. 8 * length g.labels) groups)

-- a statement, by those in it
abbrev pub statement_step : Statement-F ℕ → ℕ
statement_step (st.Assign line target operator value) = reference_size target + expr_size value + 24
statement_step (st.Fill line name values) = exprs_size values + 24
statement_step (st.Call line name arguments) = exprs_size arguments + 24
statement_step (st.If line arms otherwise) = arms_size arms + sum otherwise + 24
statement_step (st.Case line value alternatives otherwise) = expr_size value + alternatives_size alternatives + sum otherwise + 24
statement_step (st.Forall line index body) = loop_size index + body + 24
statement_step (st.While line condition body) = expr_size condition + body + 24
statement_step (st.Repeat line body until_line condition) = sum body + expr_size condition + 24
statement_step (st.Do line body) = sum body + 24
statement_step (st.Break line) = 24
statement_step (st.Next line) = 24
statement_step (st.Initializations line direction name labels) = expr_size name + labels_size labels + 24

-- a statement
abbrev pub statement_size : Statement → ℕ
statement_size = fold-Statement ℕ statement_step

-- ---- sources

-- a part of a routine
abbrev pub part_size : RoutinePart → ℕ
part_size (part.Declarations declared) = items_size declared.items
part_size (part.Statement x) = statement_size x

-- a part of a model; `forward` adds neither its routine nor its formals
abbrev pub top_size : Top → ℕ
top_size (top.Parameters line all) = sum (map parameter_size all)
top_size (top.Declarations declared) = items_size declared.items
top_size (top.Routine x) = formals_size x.heading.formals + sum (map part_size x.parts) + 24
top_size (top.Forward x) = formal_types_size x.formals
top_size (top.Statement x) = statement_size x

-- the variables of routines
abbrev pub routine_variables : List CheckedRoutine → ℕ
routine_variables routines = sum (map (λ r. length r.variables) routines)

-- the size count of a source with these parts, routines and variables of the model
abbrev pub size_count : List Top → List CheckedRoutine → List Variable → ℕ
size_count tops routines variables = 24 + sum (map top_size tops) + 24 * routine_variables routines + 24 * length variables

-- as a number of 64 bits
abbrev pub capped : ℕ → ℕ
capped n = min n (2 ^ 64 - 1)
