-- Integers have 32 bits; what their operators make of them is an integer or a fault.

use Rattle.std.specs.Prelude.{zero, suc, ℤ, pos, negsuc, ◌+ℤ◌, ◌-ℤ◌, ◌*ℤ◌, neg_ℤ, int_div, int_rem, Bool, nat_lt, if◌then◌else◌, Result, Ok, Err}
use Rattle.mos_text.specs.declared.fault_kind.FaultKind.{FaultKind}
use Rattle.mos_text.specs.declared.fault_kind.FaultKind.TheVariants.{Overflow, DivZero}

-- whether a number has 32 bits: it is from -2147483648 to 2147483647
abbrev pub is_integer : ℤ → Bool
is_integer (pos n) = nat_lt n 2147483648
is_integer (negsuc n) = nat_lt n 2147483648

-- an integer, or the fault of a number that does not fit
abbrev pub integer : ℤ → Result ℤ FaultKind
integer n = if is_integer n then Ok n else Err Overflow

-- `+`: the sum
abbrev pub sum_of : ℤ → ℤ → Result ℤ FaultKind
sum_of a b = integer (a +ℤ b)

-- `-`: the difference
abbrev pub difference_of : ℤ → ℤ → Result ℤ FaultKind
difference_of a b = integer (a -ℤ b)

-- `*`: the product
abbrev pub product_of : ℤ → ℤ → Result ℤ FaultKind
product_of a b = integer (a *ℤ b)

-- `-` before one integer: its negative
abbrev pub negative_of : ℤ → Result ℤ FaultKind
negative_of a = integer (neg_ℤ a)

-- an answer, unless the divisor is zero
abbrev pub unless_zero : ℤ → Result ℤ FaultKind → Result ℤ FaultKind
unless_zero (pos zero) answer = Err DivZero
unless_zero (pos (suc n)) answer = answer
unless_zero (negsuc n) answer = answer

-- `div`: the quotient, rounded toward zero
abbrev pub quotient_of : ℤ → ℤ → Result ℤ FaultKind
quotient_of a b = unless_zero b (integer (int_div a b))

-- `mod`: the remainder that `div` leaves, with the sign of the left integer
abbrev pub remainder_of : ℤ → ℤ → Result ℤ FaultKind
remainder_of a b = unless_zero b (Ok (int_rem a b))
