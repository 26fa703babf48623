-- What operators make of constant values.

use Rattle.std.specs.Prelude.{ℤ, int_le, int_lt, Bool, true, false, not, ◌&&◌, ◌||◌, List, [], ◌∷◌, Option, Some, None, option_map}
use Rattle.std.specs.Ordering.{int_eq}
use Rattle.mos_text.specs.declared.scalar.Scalar.{Scalar}
use Rattle.mos_text.specs.declared.scalar.Scalar.TheVariants.{Int, Bool as Truth, Str}
use Rattle.mos_value.specs.Answers.{comparison_result, equal, not_equal, less, at_most, greater, at_least}
use Rattle.mos_value.specs.Numbers.{sum_of, difference_of, product_of, quotient_of, remainder_of, negative_of}
use Rattle.mos_value.specs.Texts.{join_of, show_one}
use Rattle.mos_value.specs.Sets.{has_member, union_of, inter_of, minus_of, same_members}
use Rattle.mos_value.specs.Lists.{chain_of}
use Rattle.mos_value.specs.Ranges.{range_set}
use Rattle.mos_value.specs.Same.{is_same}
use Rattle.mos_tree.specs.declared.expr.UnaryOperator.{UnaryOperator}
use Rattle.mos_tree.specs.declared.expr.UnaryOperator.TheVariants as unary
use Rattle.mos_sorts.specs.declared.typed.Operation.{Operation}
use Rattle.mos_sorts.specs.declared.typed.Operation.TheVariants as o
use Rattle.mos_sorts.specs.declared.value.Value.{Value}
use Rattle.mos_sorts.specs.declared.value.Value.TheVariants as v
use Rattle.mos_constants.specs.Found.{integer_found, text_found, set_found, list_found, truth_value}

-- a comparison of two values without parts
abbrev pub compared : Operation → Scalar → Scalar → Option Bool
compared o.Equal a b = comparison_result equal a b
compared o.NotEqual a b = comparison_result not_equal a b
compared o.Less a b = comparison_result less a b
compared o.AtMost a b = comparison_result at_most a b
compared o.Greater a b = comparison_result greater a b
compared o.AtLeast a b = comparison_result at_least a b
compared _ a b = None

-- its truth, where they have it
abbrev pub comparison : Operation → Scalar → Scalar → Option Value
comparison operation a b = option_map truth_value (compared operation a b)

-- `=` and `<>`, by whether the two are the same
abbrev pub by_sameness : Operation → Bool → Option Value
by_sameness o.Equal same = Some (truth_value same)
by_sameness o.NotEqual same = Some (truth_value (not same))
by_sameness _ same = None

-- `in` and `not in`, by whether the one is in the other
abbrev pub by_membership : Operation → Bool → Option Value
by_membership o.In is = Some (truth_value is)
by_membership o.NotIn is = Some (truth_value (not is))
by_membership _ is = None

-- between two integers
abbrev pub of_integers : Operation → ℤ → ℤ → Option Value
of_integers o.Times a b = integer_found (product_of a b)
of_integers o.Div a b = integer_found (quotient_of a b)
of_integers o.Mod a b = integer_found (remainder_of a b)
of_integers o.Add a b = integer_found (sum_of a b)
of_integers o.Subtract a b = integer_found (difference_of a b)
of_integers o.Span a b = Some (v.Range a b)
of_integers operation a b = comparison operation (Int a) (Int b)

-- between two truths
abbrev pub of_truths : Operation → Bool → Bool → Option Value
of_truths o.And a b = Some (truth_value (a && b))
of_truths o.Or a b = Some (truth_value (a || b))
of_truths operation a b = comparison operation (Truth a) (Truth b)

-- between two values without parts; only texts are joined
abbrev pub of_scalars : Operation → Scalar → Scalar → Option Value
of_scalars operation (Int a) (Int b) = of_integers operation a b
of_scalars operation (Truth a) (Truth b) = of_truths operation a b
of_scalars o.Join (Str a) (Str b) = text_found (join_of a b)
of_scalars operation a b = comparison operation a b

-- between two sets
abbrev pub of_sets : Operation → List Scalar → List Scalar → Option Value
of_sets o.Unite a b = set_found (union_of a b)
of_sets o.Meet a b = set_found (inter_of a b)
of_sets o.Without a b = set_found (minus_of a b)
of_sets operation a b = by_sameness operation (same_members a b)

-- the items are the same, in the same order
abbrev pub same_items : List Scalar → List Scalar → Bool
same_items [] [] = true
same_items (a ∷ as_) (b ∷ bs) = is_same a b && same_items as_ bs
same_items _ _ = false

-- between two lists
abbrev pub of_lists : Operation → List Scalar → List Scalar → Option Value
of_lists o.Chain a b = list_found (chain_of a b)
of_lists operation a b = by_sameness operation (same_items a b)

-- two ranges have the same bounds
abbrev pub same_bounds : ℤ × ℤ → ℤ × ℤ → Bool
same_bounds a b = int_eq a.0 b.0 && int_eq a.1 b.1

-- both have no integer
abbrev pub are_empty : ℤ × ℤ → ℤ × ℤ → Bool
are_empty a b = int_lt a.1 a.0 && int_lt b.1 b.0

-- two ranges have the same integers: they have the same bounds, or none has any
abbrev pub same_integers : ℤ × ℤ → ℤ × ℤ → Bool
same_integers a b = same_bounds a b || are_empty a b

-- the integer is in the range
abbrev pub is_within : ℤ → ℤ → Scalar → Bool
is_within first last (Int n) = int_le first n && int_le n last
is_within first last _ = false

-- an operator between two values
abbrev pub binary_value : Operation → Value → Value → Option Value
binary_value operation (v.One a) (v.One b) = of_scalars operation a b
binary_value operation (v.One a) (v.Set members) = by_membership operation (has_member a members)
binary_value operation (v.One a) (v.Range first last) = by_membership operation (is_within first last a)
binary_value operation (v.Set a) (v.Set b) = of_sets operation a b
binary_value operation (v.List a) (v.List b) = of_lists operation a b
binary_value operation (v.Range a b) (v.Range c d) = by_sameness operation (same_integers (a, b) (c, d))
binary_value _ _ _ = None

-- the left value decides alone, and is the answer
abbrev pub decides : Operation → Value → Bool
decides o.And (v.One (Truth b)) = not b
decides o.Or (v.One (Truth b)) = b
decides _ _ = false

-- an operator before a value
abbrev pub unary_value : UnaryOperator → Value → Option Value
unary_value unary.Minus (v.One (Int n)) = integer_found (negative_of n)
unary_value unary.Plus (v.One (Int n)) = Some (v.One (Int n))
unary_value unary.Not (v.One (Truth b)) = Some (truth_value (not b))
unary_value _ _ = None

-- a range made into a set
abbrev pub set_value : Value → Option Value
set_value (v.Range first last) = set_found (range_set first last)
set_value _ = None

-- the printed form of a value without parts
abbrev pub printed_value : Value → Option Value
printed_value (v.One a) = text_found (show_one a)
printed_value _ = None
