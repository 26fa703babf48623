-- Which operators there are on which types, and of which type their answers are.

use Rattle.std.specs.Prelude.{Bool, true, false, not, ◌&&◌, ◌||◌, Option, Some, None, option_map, if◌then◌else◌}
use Rattle.mos_value.specs.declared.member.MemberType.{MemberType}
use Rattle.mos_value.specs.declared.member.MemberType.TheVariants as m
use Rattle.mos_tree.specs.declared.expr.UnaryOperator.{UnaryOperator}
use Rattle.mos_tree.specs.declared.expr.UnaryOperator.TheVariants as unary
use Rattle.mos_tree.specs.declared.expr.BinaryOperator.{BinaryOperator}
use Rattle.mos_tree.specs.declared.expr.BinaryOperator.TheVariants as binary
use Rattle.mos_tree.specs.declared.expr.AggregateOperator.{AggregateOperator}
use Rattle.mos_tree.specs.declared.expr.AggregateOperator.TheVariants as aggregate
use Rattle.mos_sorts.specs.declared.sort.Sort.{Sort}
use Rattle.mos_sorts.specs.declared.sort.Sort.TheVariants as s
use Rattle.mos_sorts.specs.declared.typed.Operation.{Operation}
use Rattle.mos_sorts.specs.declared.typed.Operation.TheVariants as o
use Rattle.mos_sorts.specs.Sorts.{when, or_else, same_sort, as_set, common_set, common_list, common, is_scalar, is_array}

-- what an operator does, and the type of its answer
abbrev pub Answer : Type 0
Answer = Option (Operation × Sort)

-- on two integers
abbrev pub of_integers : Operation → Sort → Sort → Sort → Answer
of_integers operation answer s.Integer s.Integer = Some (operation, answer)
of_integers operation answer _ _ = None

-- on two texts
abbrev pub of_texts : Operation → Sort → Sort → Sort → Answer
of_texts operation answer s.Text s.Text = Some (operation, answer)
of_texts operation answer _ _ = None

-- on two booleans
abbrev pub of_booleans : Operation → Sort → Sort → Answer
of_booleans operation s.Boolean s.Boolean = Some (operation, s.Boolean)
of_booleans operation _ _ = None

-- on two sets or ranges; the answer is a set
abbrev pub of_sets : Operation → Sort → Sort → Answer
of_sets operation a b = option_map (λ sort. (operation, sort)) (common_set a b)

-- on two lists
abbrev pub of_lists : Sort → Sort → Answer
of_lists a b = option_map (λ sort. (o.Chain, sort)) (common_list a b)

-- a text and any scalar but a record, in either order
abbrev pub joins : Sort → Sort → Bool
joins s.Text b = is_scalar b
joins a s.Text = is_scalar a
joins _ _ = false

-- `+` on two sets or two lists
abbrev pub plus_of_parts : Sort → Sort → Answer
plus_of_parts a b = or_else (of_sets o.Unite a b) (of_lists a b)

-- `+`
abbrev pub plus : Sort → Sort → Answer
plus a b = if joins a b then Some (o.Join, s.Text) else or_else (of_integers o.Add s.Integer a b) (plus_of_parts a b)

-- `-`
abbrev pub minus : Sort → Sort → Answer
minus a b = or_else (of_integers o.Subtract s.Integer a b) (of_sets o.Without a b)

-- a comparison of two values of one type, if that is no array type
abbrev pub unless_arrays : Operation → Option Sort → Answer
unless_arrays operation None = None
unless_arrays operation (Some sort) = when (not (is_array sort)) (operation, s.Boolean)

-- `=` and `<>`: two values of one type but arrays
abbrev pub of_equals : Operation → Sort → Sort → Answer
of_equals operation a b = unless_arrays operation (common a b)

-- `<`, `<=`, `>` and `>=`: two integers or two texts
abbrev pub of_ordered : Operation → Sort → Sort → Answer
of_ordered operation a b = or_else (of_integers operation s.Boolean a b) (of_texts operation s.Boolean a b)

-- a value can be in a set of its type, or an integer in a range
abbrev pub can_be_in : Sort → Sort → Bool
can_be_in s.Integer s.Range = true
can_be_in s.Integer s.EmptySet = true
can_be_in s.Boolean s.EmptySet = true
can_be_in s.Text s.EmptySet = true
can_be_in s.Integer (s.Set m.Integer) = true
can_be_in s.Boolean (s.Set m.Boolean) = true
can_be_in s.Text (s.Set m.Str) = true
can_be_in _ _ = false

-- `in` and `not in`
abbrev pub of_in : Operation → Sort → Sort → Answer
of_in operation a b = when (can_be_in a b) (operation, s.Boolean)

-- an operator between values of two types
abbrev pub binary_answer : BinaryOperator → Sort → Sort → Answer
binary_answer binary.Times a b = of_integers o.Times s.Integer a b
binary_answer binary.Div a b = of_integers o.Div s.Integer a b
binary_answer binary.Mod a b = of_integers o.Mod s.Integer a b
binary_answer binary.Inter a b = of_sets o.Meet a b
binary_answer binary.Plus a b = plus a b
binary_answer binary.Minus a b = minus a b
binary_answer binary.Union a b = of_sets o.Unite a b
binary_answer binary.Range a b = of_integers o.Span s.Range a b
binary_answer binary.Equal a b = of_equals o.Equal a b
binary_answer binary.NotEqual a b = of_equals o.NotEqual a b
binary_answer binary.Less a b = of_ordered o.Less a b
binary_answer binary.AtMost a b = of_ordered o.AtMost a b
binary_answer binary.Greater a b = of_ordered o.Greater a b
binary_answer binary.AtLeast a b = of_ordered o.AtLeast a b
binary_answer binary.In a b = of_in o.In a b
binary_answer binary.NotIn a b = of_in o.NotIn a b
binary_answer binary.And a b = of_booleans o.And a b
binary_answer binary.Or a b = of_booleans o.Or a b

-- an operator before a value of this type
abbrev pub has_unary : UnaryOperator → Sort → Bool
has_unary unary.Minus s.Integer = true
has_unary unary.Plus s.Integer = true
has_unary unary.Not s.Boolean = true
has_unary _ _ = false

-- the type of an aggregate with a body of this type
abbrev pub aggregate_answer : AggregateOperator → Sort → Option Sort
aggregate_answer aggregate.Sum s.Integer = Some s.Integer
aggregate_answer aggregate.Prod s.Integer = Some s.Integer
aggregate_answer aggregate.Min s.Integer = Some s.Integer
aggregate_answer aggregate.Max s.Integer = Some s.Integer
aggregate_answer aggregate.And s.Boolean = Some s.Boolean
aggregate_answer aggregate.Or s.Boolean = Some s.Boolean
aggregate_answer aggregate.Union body = as_set body
aggregate_answer _ _ = None

-- the answer, where it is of this type
abbrev pub keeps : Sort → Answer → Answer
keeps sort None = None
keeps sort (Some (operation, answer)) = when (same_sort sort answer) (operation, answer)

-- what `+=` makes of a variable of the first type
abbrev pub plus_into : Sort → Sort → Answer
plus_into a b = keeps a (plus a b)

-- what `-=` makes of it
abbrev pub minus_from : Sort → Sort → Answer
minus_from a b = keeps a (minus a b)
