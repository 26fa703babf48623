-- The values of constant expressions, and what an expression breaks where a constant one is wanted.

use Rattle.std.specs.Prelude.{ℕ, Bool, true, false, not, ◌||◌, List, [], ◌∷◌, map, Option, Some, None, option_map, option_and_then, if◌then◌else◌}
use Rattle.mos_text.specs.declared.kind.Kind.{Kind}
use Rattle.mos_text.specs.declared.kind.Kind.TheVariants as k
use Rattle.mos_text.specs.declared.scalar.Scalar.{Scalar}
use Rattle.mos_text.specs.declared.scalar.Scalar.TheVariants.{Int}
use Rattle.mos_names.specs.NameLists.{Name}
use Rattle.mos_value.specs.Collections.{collection_of}
use Rattle.mos_value.specs.Sets.{set_of}
use Rattle.mos_value.specs.Texts.{text_of}
use Rattle.mos_tree.specs.declared.expr.Expr.{Expr}
use Rattle.mos_sorts.specs.declared.sort.Sort.{Sort}
use Rattle.mos_sorts.specs.declared.scope.Scope.{Scope}
use Rattle.mos_sorts.specs.declared.scope.Entry.{Entry}
use Rattle.mos_sorts.specs.declared.scope.Role.{Role}
use Rattle.mos_sorts.specs.declared.scope.Role.TheVariants as role
use Rattle.mos_sorts.specs.declared.value.Value.{Value}
use Rattle.mos_sorts.specs.declared.value.Value.TheVariants as v
use Rattle.mos_sorts.specs.declared.typed.Where.{Where}
use Rattle.mos_sorts.specs.declared.typed.Where.TheVariants as where_
use Rattle.mos_sorts.specs.declared.typed.Operation.{Operation}
use Rattle.mos_sorts.specs.declared.typed.Typed.{Typed}
use Rattle.mos_sorts.specs.declared.typed.Typed.TheOpen.{Typed-F, Integer, Text, Truth as TruthOf, Constant, Set, List as ListOf, Unary, Binary, AsSet, Show}
use Rattle.mos_sorts.specs.declared.typed.Typed.TheFolds.{fold-Typed}
use Rattle.mos_sorts.specs.Kinds.{breaks}
use Rattle.mos_sorts.specs.Scopes.{latest}
use Rattle.mos_sorts.specs.Trees.{sort_of}
use Rattle.mos_constants.specs.Found.{text_found, set_found, unless_fault, truth_value}
use Rattle.mos_constants.specs.Operators.{binary_value, decides, unary_value, set_value, printed_value}
use Rattle.mos_constants.specs.Forms.{has_constant_form}

-- the value of a constant
abbrev pub value_of_role : Role → Option Value
value_of_role (role.Constant sort value) = Some value
value_of_role _ = None

-- the value of a constant, as its entry says it
abbrev pub value_of_entry : Option Entry → Option Value
value_of_entry None = None
value_of_entry (Some entry) = value_of_role entry.role

-- the value of the constant of this name that is declared there
abbrev pub named_value : Where → Name → Scope → Option Value
named_value where_.Own name scope = value_of_entry (latest name None scope.own)
named_value where_.Model name scope = value_of_entry (latest name None scope.model)
named_value where_.Index name scope = None

-- the value without parts, if it is one
abbrev pub scalar_of : Value → Option Scalar
scalar_of (v.One a) = Some a
scalar_of _ = None

-- one more in front of these, where there are both
abbrev pub in_front : Option Scalar → Option (List Scalar) → Option (List Scalar)
in_front (Some a) (Some all) = Some (a ∷ all)
in_front _ _ = None

-- the values without parts, if each is one
abbrev pub scalars_of : List (Option Value) → Option (List Scalar)
scalars_of [] = Some []
scalars_of (a ∷ all) = in_front (option_and_then scalar_of a) (scalars_of all)

-- these as the items of a list, where there are not too many
abbrev pub items_of : Option (List Scalar) → Option (List Scalar)
items_of None = None
items_of (Some all) = unless_fault (collection_of all)

-- the set of these
abbrev pub set_of_items : List Scalar → Option Value
set_of_items all = set_found (set_of all)

-- the value of a set of these
abbrev pub set_of_all : Option (List Scalar) → Option Value
set_of_all all = option_and_then set_of_items (items_of all)

-- the value of a list of these
abbrev pub list_of_all : Option (List Scalar) → Option Value
list_of_all all = option_map v.List (items_of all)

-- the value of a literal
abbrev pub text_value : List ℕ → Option Value
text_value text = text_found (text_of text)

-- an operator behind its left value, which may decide alone
abbrev pub behind : Operation → Value → Option Value → Option Value
behind operation a b = if decides operation a then Some a else option_and_then (binary_value operation a) b

-- an operator between two values
abbrev pub between : Operation → Option Value → Option Value → Option Value
between operation None b = None
between operation (Some a) b = behind operation a b

-- the value of an expression whose parts have these values
abbrev pub value_step : Scope → Typed-F (Option Value) → Option Value
value_step scope (Integer n) = Some (v.One (Int n))
value_step scope (Text text) = text_value text
value_step scope (TruthOf b) = Some (truth_value b)
value_step scope (Constant sort place name) = named_value place name scope
value_step scope (Set sort all) = set_of_all (scalars_of all)
value_step scope (ListOf sort all) = list_of_all (scalars_of all)
value_step scope (Unary operator a) = option_and_then (unary_value operator) a
value_step scope (Binary sort operation a b) = between operation a b
value_step scope (AsSet a) = option_and_then set_value a
value_step scope (Show a) = option_and_then printed_value a
value_step scope _ = None

-- the value of a constant expression, where it has one; a fault has none
abbrev pub constant_value : Scope → Typed → Option Value
constant_value scope = fold-Typed (Option Value) (value_step scope)

-- the values without parts of several expressions
abbrev pub scalar_values : Scope → List Typed → Option (List Scalar)
scalar_values scope all = scalars_of (map (constant_value scope) all)

-- the value of an expression where a constant one is wanted
abbrev pub constant : Scope → Expr → Typed → Option Value
constant scope expr tree = if has_constant_form scope expr then constant_value scope tree else None

-- there is a type, but no value
abbrev pub lacks_value : Option Sort → Option Value → Bool
lacks_value (Some sort) None = true
lacks_value _ _ = false

-- an expression breaks the rule where a constant one is wanted: it lacks the form, or has a type and yet no value
abbrev pub is_no_constant : Scope → Expr → Typed → Bool
is_no_constant scope expr tree = not (has_constant_form scope expr) || lacks_value (sort_of tree) (constant scope expr tree)

-- the rules that it breaks
abbrev pub wrong_constant : Scope → Expr → Typed → List Kind
wrong_constant scope expr tree = breaks (is_no_constant scope expr tree) k.Const
