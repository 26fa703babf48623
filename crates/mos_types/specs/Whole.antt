-- Typed trees in which each expression has a type; and the law that an expression that breaks no rule has such a tree.

use Rattle.std.specs.Prelude.{◌≡◌, Bool, true, false, ◌&&◌, List, [], ◌∷◌, Option, Some, None, map}
use Rattle.mos_text.specs.declared.kind.Kind.{Kind}
use Rattle.mos_names.specs.NameLists.{Name as NameOf}
use Rattle.mos_tree.specs.Children.{in_index}
use Rattle.mos_tree.specs.declared.statement.Assignment.{Assignment}
use Rattle.mos_tree.specs.declared.statement.Reference.{Reference}
use Rattle.mos_tree.specs.declared.expr.Group.{Group}
use Rattle.mos_tree.specs.declared.expr.Index.{Index}
use Rattle.mos_tree.specs.declared.expr.Expr.{Expr}
use Rattle.mos_sorts.specs.declared.sort.Sort.{Sort}
use Rattle.mos_sorts.specs.declared.scope.Scope.{Scope}
use Rattle.mos_sorts.specs.declared.scope.Bound.{Bound}
use Rattle.mos_sorts.specs.declared.typed.Typed.{Typed}
use Rattle.mos_sorts.specs.declared.typed.Typed.TheFolds.{fold-Typed}
use Rattle.mos_sorts.specs.declared.typed.Typed.TheOpen.{Typed-F, Wrong, Integer, Text, Truth, Constant, Name, Returned, Cell, Field, Routine, Library, Set, List as ListOf, If, Unary, Binary, AsSet, Show, Aggregate, Count}
use Rattle.mos_rules.specs.Rows.{Expects}
use Rattle.mos_types.specs.declared.called.Called.{Called}
use Rattle.mos_types.specs.declared.called.Called.TheVariants as c
use Rattle.mos_types.specs.Looks.{look, look_all, look_index}
use Rattle.mos_types.specs.Statements.{look_call, look_fill, look_condition, look_block, look_as}
use Rattle.mos_types.specs.Assignments.{look_assignment}

-- all of these are whole
abbrev pub all_whole : List Bool → Bool
all_whole [] = true
all_whole (b ∷ bs) = b && all_whole bs

-- the sets of all groups are
abbrev pub groups_whole : List (Group Bool) → Bool
groups_whole [] = true
groups_whole (g ∷ gs) = g.set && groups_whole gs

-- the condition is, where there is one
abbrev pub test_whole : Option Bool → Bool
test_whole None = true
test_whole (Some b) = b

-- an index is whole
abbrev pub index_whole : Index Bool → Bool
index_whole index = groups_whole index.groups && test_whole index.condition

-- an expression is whole, by those in it
abbrev pub whole_step : Typed-F Bool → Bool
whole_step Wrong = false
whole_step (Integer n) = true
whole_step (Text text) = true
whole_step (Truth b) = true
whole_step (Constant sort place name) = true
whole_step (Name sort place name) = true
whole_step (Returned sort) = true
whole_step (Cell sort dynamic place name indexes) = all_whole indexes
whole_step (Field sort a field) = a
whole_step (Routine sort name all) = all_whole all
whole_step (Library sort function all) = all_whole all
whole_step (Set sort all) = all_whole all
whole_step (ListOf sort all) = all_whole all
whole_step (If sort c a b) = c && (a && b)
whole_step (Unary operator a) = a
whole_step (Binary sort operation a b) = a && b
whole_step (AsSet a) = a
whole_step (Show a) = a
whole_step (Aggregate sort operator index body) = index_whole index && body
whole_step (Count index) = index_whole index

-- an expression and all in it have types
abbrev pub whole : Typed → Bool
whole = fold-Typed Bool whole_step

-- an expression in which no rule counts has a tree without a part that has no type
abbrev pub TypedTreesAreWhole : Type 0
TypedTreesAreWhole =
    (e : Expr) (scope : Scope) (bound : List Bound) (worst : Option Kind)
    → (look e scope bound worst).worst ≡ None
    → whole (look e scope bound worst).tree ≡ true

-- ---- the same of what stands in statements

-- expressions in a row
abbrev pub TypedRowsAreWhole : Type 0
TypedRowsAreWhole =
    (expected : Expects) (all : List Expr) (scope : Scope) (bound : List Bound) (worst : Option Kind)
    → (look_all expected all scope bound worst).worst ≡ None
    → all_whole (map whole (look_all expected all scope bound worst).trees) ≡ true

-- what a loop goes over
abbrev pub TypedIndexesAreWhole : Type 0
TypedIndexesAreWhole =
    (index : Index Expr) (scope : Scope) (bound : List Bound) (worst : Option Kind)
    → (look_index index scope bound worst).worst ≡ None
    → index_whole (in_index whole (look_index index scope bound worst).index) ≡ true

-- both sides of an assignment
abbrev pub TypedAssignmentsAreWhole : Type 0
TypedAssignmentsAreWhole =
    (target : Reference) (operator : Assignment) (value : Expr) (scope : Scope) (bound : List Bound) (worst : Option Kind)
    → (look_assignment target operator value scope bound worst).worst ≡ None
    → (whole (look_assignment target operator value scope bound worst).target ≡ true)
    × (whole (look_assignment target operator value scope bound worst).value ≡ true)

-- a call is whole
abbrev pub call_whole : Called → Bool
call_whole c.Wrong = false
call_whole (c.Routine name all) = all_whole (map whole all)
call_whole (c.Library function all) = all_whole (map whole all)

-- calls
abbrev pub TypedCallsAreWhole : Type 0
TypedCallsAreWhole =
    (name : NameOf) (all : List Expr) (scope : Scope) (bound : List Bound) (worst : Option Kind)
    → (look_call name all scope bound worst).worst ≡ None
    → call_whole (look_call name all scope bound worst).call ≡ true

-- cells that are filled
abbrev pub TypedFillsAreWhole : Type 0
TypedFillsAreWhole =
    (name : NameOf) (values : List Expr) (scope : Scope) (bound : List Bound) (worst : Option Kind)
    → (look_fill name values scope bound worst).worst ≡ None
    → (whole (look_fill name values scope bound worst).target ≡ true)
    × (all_whole (map whole (look_fill name values scope bound worst).values) ≡ true)

-- conditions, names of blocks of data, and values where a type is wanted
abbrev pub TypedValuesAreWhole : Type 0
TypedValuesAreWhole =
    (expr : Expr) (scope : Scope) (bound : List Bound) (worst : Option Kind)
    → ((look_condition expr scope bound worst).worst ≡ None → whole (look_condition expr scope bound worst).tree ≡ true)
    × ((look_block expr scope bound worst).worst ≡ None → whole (look_block expr scope bound worst).tree ≡ true)
    × ((wanted : Sort) → (look_as wanted expr scope bound worst).worst ≡ None → whole (look_as wanted expr scope bound worst).tree ≡ true)
