-- Texts have at most 1,000,000 bytes; how they are joined, and the printed forms of values without parts.

use Rattle.std.specs.Prelude.{ℕ, Bool, true, false, List, ◌++◌, length, codes, decimal, nat_le, if◌then◌else◌, Result, Ok, Err}
use Rattle.std.specs.Fmt.{signed_decimal}
use Rattle.mos_text.specs.declared.fault_kind.FaultKind.{FaultKind}
use Rattle.mos_text.specs.declared.fault_kind.FaultKind.TheVariants.{TooBig}
use Rattle.mos_text.specs.declared.scalar.Scalar.{Scalar}
use Rattle.mos_text.specs.declared.scalar.Scalar.TheVariants.{Int, Bool as Truth, Str, Model, Event}

-- a text, or the fault of one of more than 1,000,000 bytes
abbrev pub text_of : List ℕ → Result (List ℕ) FaultKind
text_of bytes = if nat_le (length bytes) 1000000 then Ok bytes else Err TooBig

-- `+` on texts: the one behind the other
abbrev pub join_of : List ℕ → List ℕ → Result (List ℕ) FaultKind
join_of a b = text_of (a ++ b)

-- the word of a truth
abbrev pub truth_text : Bool → List ℕ
truth_text true = codes "true"
truth_text false = codes "false"

-- the printed form of a value without parts
abbrev pub print_scalar : Scalar → List ℕ
print_scalar (Int n) = signed_decimal n
print_scalar (Truth b) = truth_text b
print_scalar (Str bytes) = bytes
print_scalar (Model n) = codes "model " ++ decimal n
print_scalar (Event class value) = codes "event " ++ signed_decimal class ++ codes " " ++ signed_decimal value

-- the printed form as a text, or the fault of one that is too long
abbrev pub show_one : Scalar → Result (List ℕ) FaultKind
show_one value = text_of (print_scalar value)
