-- What operators and functions make of values: one answer, the same for the meaning of a model and for
-- the machine.

use Rattle.std.specs.Prelude.{ℕ, Bool, List, [], ◌∷◌, Option, Some, None, not, option_map, Result as Found, Ok, Err}
use Rattle.std.specs.Ordering.{is_lt, is_gt}
use Rattle.mos_text.specs.declared.fault_kind.FaultKind.{FaultKind}
use Rattle.mos_text.specs.declared.scalar.Scalar.{Scalar}
use Rattle.mos_text.specs.declared.scalar.Scalar.TheVariants.{Int, Bool as Truth, Str}
use Rattle.mos_value.specs.Values.{Value, One, Range}
use Rattle.mos_value.specs.Numbers.{sum_of, difference_of, product_of, quotient_of, remainder_of, negative_of}
use Rattle.mos_value.specs.Comparisons.{order_of, same_value}
use Rattle.mos_value.specs.Texts.{text_of, join_of, show_one}

-- a value, a fault, or neither, since the values are not of the kinds that are wanted
pub data Result : Type 0 where
  Gives : (value : Value) → Result
  Faults : (kind : FaultKind) → Result
  Sticks : Result

-- a comparison of two values of one kind
pub data Comparison : Type 0 where
  equal : Comparison
  not_equal : Comparison
  less : Comparison
  at_most : Comparison
  greater : Comparison
  at_least : Comparison

-- an operator between two values that a tree can hold today
pub data Operator : Type 0 where
  sum : Operator
  difference : Operator
  compare : Comparison → Operator

-- an operator or a function; `+` is `sum` of integers and `join` of texts, each by itself. No tree can hold
-- the five from `product` to `join` yet
pub data Operation : Type 0 where
  between : Operator → Operation
  product : Operation
  quotient : Operation
  remainder : Operation
  negative : Operation  -- `-` before one integer
  join : Operation  -- `+` on texts
  range : Operation  -- the integers from one to another
  show : Operation  -- the printed form, as a text

-- Answers of operators.

-- what an operator has found, as a value of its kind, or its fault
abbrev pub result_of_found : {A : Type 0} → (A → Scalar) → Found A FaultKind → Result
result_of_found kind (Ok x) = Gives (One (kind x))
result_of_found kind (Err fault) = Faults fault

-- a comparison, where the two are of one kind
abbrev pub comparison_result : Comparison → Scalar → Scalar → Option Bool
comparison_result equal a b = same_value a b
comparison_result not_equal a b = option_map not (same_value a b)
comparison_result less a b = option_map is_lt (order_of a b)
comparison_result at_most a b = option_map (λ order. not (is_gt order)) (order_of a b)
comparison_result greater a b = option_map is_gt (order_of a b)
comparison_result at_least a b = option_map (λ order. not (is_lt order)) (order_of a b)

-- a truth, where there is one
abbrev pub truth : Option Bool → Result
truth None = Sticks
truth (Some b) = Gives (One (Truth b))

-- a text, or the fault of one that is too long
abbrev pub text : List ℕ → Result
text bytes = result_of_found Str (text_of bytes)

-- what an operator or function makes of values, in the order in which they are written
abbrev pub answer : Operation → List Value → Result
answer (between sum) (One (Int a) ∷ One (Int b) ∷ []) = result_of_found Int (sum_of a b)
answer (between sum) _ = Sticks
answer (between difference) (One (Int a) ∷ One (Int b) ∷ []) = result_of_found Int (difference_of a b)
answer (between difference) _ = Sticks
answer (between (compare how)) (One a ∷ One b ∷ []) = truth (comparison_result how a b)
answer (between (compare how)) _ = Sticks
answer product (One (Int a) ∷ One (Int b) ∷ []) = result_of_found Int (product_of a b)
answer product _ = Sticks
answer quotient (One (Int a) ∷ One (Int b) ∷ []) = result_of_found Int (quotient_of a b)
answer quotient _ = Sticks
answer remainder (One (Int a) ∷ One (Int b) ∷ []) = result_of_found Int (remainder_of a b)
answer remainder _ = Sticks
answer negative (One (Int a) ∷ []) = result_of_found Int (negative_of a)
answer negative _ = Sticks
answer join (One (Str a) ∷ One (Str b) ∷ []) = result_of_found Str (join_of a b)
answer join _ = Sticks
answer range (One (Int a) ∷ One (Int b) ∷ []) = Gives (Range a b)
answer range _ = Sticks
answer show (One value ∷ []) = result_of_found Str (show_one value)
answer show _ = Sticks
