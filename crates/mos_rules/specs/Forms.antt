-- Literals of sets and lists, operators, and `if`, by what stands in them.

use Rattle.std.specs.Prelude.{Bool, List, [], ◌∷◌, Option, Some, None, option_map, if◌then◌else◌}
use Rattle.std.specs.List.{list_all}
use Rattle.mos_text.specs.declared.kind.Kind.{Kind}
use Rattle.mos_value.specs.declared.member.MemberType.{MemberType}
use Rattle.mos_tree.specs.declared.expr.UnaryOperator.{UnaryOperator}
use Rattle.mos_tree.specs.declared.expr.BinaryOperator.{BinaryOperator}
use Rattle.mos_sorts.specs.declared.sort.Sort.{Sort}
use Rattle.mos_sorts.specs.declared.sort.Sort.TheVariants as s
use Rattle.mos_sorts.specs.declared.typed.Typed.{Typed}
use Rattle.mos_sorts.specs.declared.typed.Typed.TheVariants as t
use Rattle.mos_sorts.specs.declared.typed.Operation.{Operation}
use Rattle.mos_sorts.specs.declared.typed.Operation.TheVariants as o
use Rattle.mos_sorts.specs.Sorts.{when, as_member, sort_of_member, is_sort, common}
use Rattle.mos_sorts.specs.Operators.{Answer, binary_answer, has_unary}
use Rattle.mos_sorts.specs.Trees.{sort_of, as_set_tree, as_printed}
use Rattle.mos_rules.specs.Results.{Seen, with_tree, without_type}
use Rattle.mos_rules.specs.Rows.{beside}

-- ---- sets and lists

-- each is of this type
abbrev pub are : Sort → List Typed → Bool
are sort all = list_all (λ a. is_sort sort (sort_of a)) all

-- the type of members, where the first has it and the others too
abbrev pub shared_by : Option MemberType → List Typed → Option MemberType
shared_by None more = None
shared_by (Some member) more = when (are (sort_of_member member) more) member

-- the type as that of members, where there is one
abbrev pub as_shared : Option Sort → Option MemberType
as_shared None = None
as_shared (Some sort) = as_member sort

-- the type of members that all of these have
abbrev pub shared : List Typed → Option MemberType
shared [] = None
shared (a ∷ more) = shared_by (as_shared (sort_of a)) more

-- the type of a set of these
abbrev pub set_sort : List Typed → Option Sort
set_sort [] = Some s.EmptySet
set_sort (a ∷ more) = option_map (λ member. s.Set member) (shared (a ∷ more))

-- a set of this type
abbrev pub set_value : Option Sort → List Typed → Option Kind → Seen
set_value (Some sort) all worst = with_tree (t.Set sort all) worst
set_value None all worst = without_type worst

-- `{a, b}` or `{}`
abbrev pub set_of : List Typed → Option Kind → Seen
set_of all worst = set_value (set_sort all) all worst

-- the type of a list of these
abbrev pub list_sort : List Typed → Option Sort
list_sort [] = Some s.EmptyList
list_sort (a ∷ more) = option_map (λ member. s.List member) (shared (a ∷ more))

-- a list of this type
abbrev pub list_value : Option Sort → List Typed → Option Kind → Seen
list_value (Some sort) all worst = with_tree (t.List sort all) worst
list_value None all worst = without_type worst

-- `[a, b]` or `[]`
abbrev pub list_of : List Typed → Option Kind → Seen
list_of all worst = list_value (list_sort all) all worst

-- ---- operators

-- an operator before a value
abbrev pub unary_value : UnaryOperator → Option Sort → Seen → Seen
unary_value operator (Some sort) a =
    if has_unary operator sort then with_tree (t.Unary operator a.tree) a.worst else without_type a.worst
unary_value operator None a = without_type a.worst

-- an operator before what is seen
abbrev pub unary : UnaryOperator → Seen → Seen
unary operator a = unary_value operator (sort_of a.tree) a

-- what an operator does between values, where both have types
abbrev pub answer_of : BinaryOperator → Option Sort → Option Sort → Answer
answer_of operator (Some a) (Some b) = binary_answer operator a b
answer_of operator _ _ = None

-- an operand beside another of this type, converted as the operation wants it
abbrev pub operand : Operation → Option Sort → Typed → Typed
operand o.Unite other a = as_set_tree a
operand o.Meet other a = as_set_tree a
operand o.Without other a = as_set_tree a
operand o.Join other a = as_printed a
operand o.Equal other a = beside other a
operand o.NotEqual other a = beside other a
operand _ other a = a

-- an operation on two values
abbrev pub binary_value : Answer → Typed → Typed → Option Kind → Seen
binary_value (Some (operation, sort)) a b worst =
    with_tree (t.Binary sort operation (operand operation (sort_of b) a) (operand operation (sort_of a) b)) worst
binary_value None a b worst = without_type worst

-- an operator between two values, the second of which was seen behind the first
abbrev pub binary : BinaryOperator → Typed → Seen → Seen
binary operator a b = binary_value (answer_of operator (sort_of a) (sort_of b.tree)) a b.tree b.worst

-- ---- `if`

-- the type of `if`
abbrev pub if_sort : Option Sort → Option Sort → Option Sort → Option Sort
if_sort (Some s.Boolean) (Some a) (Some b) = common a b
if_sort _ _ _ = None

-- one of two values
abbrev pub if_value : Option Sort → Typed → Typed → Typed → Option Kind → Seen
if_value (Some sort) c a b worst = with_tree (t.If sort c (beside (sort_of b) a) (beside (sort_of a) b)) worst
if_value None c a b worst = without_type worst

-- `if(c, a, b)`, the last of which was seen behind the others
abbrev pub chosen : Typed → Typed → Seen → Seen
chosen c a b = if_value (if_sort (sort_of c) (sort_of a) (sort_of b.tree)) c a b.tree b.worst
