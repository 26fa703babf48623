-- The table of the library: what each function makes of its arguments, the same for the meaning of a model and
-- for the machine.

use Rattle.std.specs.Prelude.{ℕ, ℤ, pos, List, [], ◌∷◌, Option, Some, None, reverse}
use Rattle.mos_text.specs.declared.scalar.Scalar.TheVariants.{Int, Bool as Truth, Str}
use Rattle.mos_value.specs.Ranges.{range_size}
use Rattle.mos_value.specs.Values.{Value, One, SetOf, ListOf, Range}
use Rattle.mos_value.specs.Answers.{Result, Gives, Sticks, result_of_found}
use Rattle.vm_lib.specs.declared.function.LibraryFunction.{LibraryFunction}
use Rattle.vm_lib.specs.declared.function.LibraryFunction.TheVariants.{Abs, MinList, MaxList, IsOdd, GetSize, GetFirst, GetLast, GetHead, GetTail, GetReverse, FindFirst, FindLast, Substr, TextOf, IntegerOf}
use Rattle.vm_lib.specs.Integers.{absolute_of, is_odd, least_of, greatest_of}
use Rattle.vm_lib.specs.Sequences.{size_of, first_of, last_of, first_of_range, last_of_range, head_of, tail_of, place_of_first, place_of_last}
use Rattle.vm_lib.specs.Characters.{text_size, part_of}
use Rattle.vm_lib.specs.Numerals.{integer_of_text, integer_of_truth}
use Rattle.vm_lib.specs.Printed.{show}

-- The numbers by which images call the functions.

-- the number of each
abbrev pub number_of : LibraryFunction → ℕ
number_of Abs = 4
number_of MinList = 5
number_of MaxList = 6
number_of IsOdd = 7
number_of GetSize = 8
number_of GetFirst = 9
number_of GetLast = 10
number_of GetHead = 11
number_of GetTail = 12
number_of GetReverse = 13
number_of FindFirst = 15
number_of FindLast = 16
number_of Substr = 17
number_of TextOf = 18
number_of IntegerOf = 19

-- Arguments and answers.

-- an integer
abbrev pub gives_integer : ℤ → Result
gives_integer n = Gives (One (Int n))

-- an integer that is there
abbrev pub integer_or_stuck : Option ℤ → Result
integer_or_stuck None = Sticks
integer_or_stuck (Some n) = gives_integer n

-- one integer before others
abbrev pub integer_before : ℤ → Option (List ℤ) → Option (List ℤ)
integer_before n None = None
integer_before n (Some more) = Some (n ∷ more)

-- the integers that values are, where each is one
abbrev pub integers_in : List Value → Option (List ℤ)
integers_in [] = Some []
integers_in (One (Int n) ∷ more) = integer_before n (integers_in more)
integers_in _ = None

-- one of the integers that values are
abbrev pub among_integers : (List ℤ → Option ℤ) → Option (List ℤ) → Result
among_integers choose None = Sticks
among_integers choose (Some all) = integer_or_stuck (choose all)

-- what a function makes of values, in the order in which they are written
abbrev pub library : LibraryFunction → List Value → Result
library Abs (One (Int a) ∷ []) = result_of_found Int (absolute_of a)
library Abs _ = Sticks
library MinList all = among_integers least_of (integers_in all)
library MaxList all = among_integers greatest_of (integers_in all)
library IsOdd (One (Int a) ∷ []) = Gives (One (Truth (is_odd a)))
library IsOdd _ = Sticks
library GetSize (One (Str text) ∷ []) = result_of_found Int (text_size text)
library GetSize (SetOf member members ∷ []) = gives_integer (size_of members)
library GetSize (ListOf member items ∷ []) = gives_integer (size_of items)
library GetSize (Range first last ∷ []) = result_of_found Int (range_size first last)
library GetSize _ = Sticks
library GetFirst (ListOf member items ∷ []) = result_of_found (λ x. x) (first_of items)
library GetFirst (Range first last ∷ []) = result_of_found Int (first_of_range first last)
library GetFirst _ = Sticks
library GetLast (ListOf member items ∷ []) = result_of_found (λ x. x) (last_of items)
library GetLast (Range first last ∷ []) = result_of_found Int (last_of_range first last)
library GetLast _ = Sticks
library GetHead (ListOf member items ∷ One (Int many) ∷ []) = Gives (ListOf member (head_of items many))
library GetHead _ = Sticks
library GetTail (ListOf member items ∷ One (Int many) ∷ []) = Gives (ListOf member (tail_of items many))
library GetTail _ = Sticks
library GetReverse (ListOf member items ∷ []) = Gives (ListOf member (reverse items))
library GetReverse _ = Sticks
library FindFirst (ListOf member items ∷ One x ∷ []) = gives_integer (pos (place_of_first items x))
library FindFirst _ = Sticks
library FindLast (ListOf member items ∷ One x ∷ []) = gives_integer (pos (place_of_last items x))
library FindLast _ = Sticks
library Substr (One (Str text) ∷ One (Int first) ∷ One (Int last) ∷ []) = result_of_found Str (part_of text first last)
library Substr _ = Sticks
library TextOf (value ∷ []) = result_of_found Str (show value)
library TextOf _ = Sticks
library IntegerOf (One (Str text) ∷ []) = result_of_found Int (integer_of_text text)
library IntegerOf (One (Truth b) ∷ []) = gives_integer (integer_of_truth b)
library IntegerOf (One (Int n) ∷ []) = gives_integer n
library IntegerOf _ = Sticks
