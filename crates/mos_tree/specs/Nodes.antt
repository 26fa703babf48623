-- How many nodes an expression has.

use Rattle.std.specs.Prelude.{ℕ, ◌+◌, List, sum, map, Option, None, Some}
use Rattle.mos_tree.specs.declared.expr.Expr.{Expr}
use Rattle.mos_tree.specs.declared.expr.Group.{Group}
use Rattle.mos_tree.specs.declared.expr.Index.{Index}
use Rattle.mos_tree.specs.Children.{in_group, in_index}
use Rattle.mos_tree.specs.declared.expr.Expr.TheOpen.{Expr-F, Integer, Text, Truth, Name, Returned, Call, Field, CallField, Set, List as ListOf, If, Convert, Unary, Binary, Aggregate, Count}
use Rattle.mos_tree.specs.declared.expr.Expr.TheFolds.{fold-Expr}

-- nodes of the groups of an index: each group is one, beside its set
abbrev pub nodes_of_groups : List (Group ℕ) → ℕ
nodes_of_groups groups = sum (map (λ g. g.set + 1) groups)

-- nodes of the condition of an index, where it has one
abbrev pub nodes_of_condition : Option ℕ → ℕ
nodes_of_condition None = 0
nodes_of_condition (Some n) = n

-- nodes of an index
abbrev pub nodes_of_index : Index ℕ → ℕ
nodes_of_index index = nodes_of_groups index.groups + nodes_of_condition index.condition

-- one for the form itself; a field's name adds nothing
abbrev pub nodes_step : Expr-F ℕ → ℕ
nodes_step (Integer n) = 1
nodes_step (Text text) = 1
nodes_step (Truth b) = 1
nodes_step (Name name) = 1
nodes_step Returned = 1
nodes_step (Call name all) = sum all + 1
nodes_step (Field name field) = 1
nodes_step (CallField name all field) = sum all + 1
nodes_step (Set all) = sum all + 1
nodes_step (ListOf all) = sum all + 1
nodes_step (If a b c) = a + b + c + 1
nodes_step (Convert to a) = a + 1
nodes_step (Unary op a) = a + 1
nodes_step (Binary op a b) = a + b + 1
nodes_step (Aggregate op index body) = nodes_of_index index + body + 1
nodes_step (Count index) = nodes_of_index index + 1

-- the nodes of an expression
abbrev pub nodes : Expr → ℕ
nodes = fold-Expr ℕ nodes_step

-- the nodes of several expressions
abbrev pub nodes_in : List Expr → ℕ
nodes_in all = sum (map nodes all)

-- the nodes of groups of index names
abbrev pub nodes_in_groups : List (Group Expr) → ℕ
nodes_in_groups groups = nodes_of_groups (map (in_group nodes) groups)

-- the nodes of an index
abbrev pub nodes_in_index : Index Expr → ℕ
nodes_in_index index = nodes_of_index (in_index nodes index)
