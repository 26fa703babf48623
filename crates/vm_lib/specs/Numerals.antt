-- Integers as texts write them: decimal digits, perhaps behind a `-`, and nothing else.

use Rattle.std.specs.Prelude.{ℕ, ◌+◌, ◌-◌, ◌*◌, ℤ, pos, neg_ℤ, Bool, true, false, ◌&&◌, List, [], ◌∷◌, Option, Some, None, Result, Ok, Err, option_map, nat_eq, nat_le, if◌then◌else◌}
use Rattle.mos_text.specs.declared.fault_kind.FaultKind.{FaultKind}
use Rattle.mos_text.specs.declared.fault_kind.FaultKind.TheVariants.{BadData}
use Rattle.mos_value.specs.Numbers.{is_integer}

-- the number that digits write, the first of which were read
abbrev pub digits_from : ℕ → List ℕ → Option ℕ
digits_from n [] = Some n
digits_from n (d ∷ ds) = if nat_le 48 d && nat_le d 57 then digits_from (10 * n + (d - 48)) ds else None

-- at least one digit
abbrev pub digits : List ℕ → Option ℕ
digits [] = None
digits (d ∷ ds) = digits_from 0 (d ∷ ds)

-- digits, perhaps behind a `-`
abbrev pub signed_digits : List ℕ → Option ℤ
signed_digits [] = None
signed_digits (byte ∷ more) = if nat_eq byte 45 then option_map (λ n. neg_ℤ (pos n)) (digits more) else option_map pos (digits (byte ∷ more))

-- a number of 32 bits, or the fault of another one and of none
abbrev pub or_bad_data : Option ℤ → Result ℤ FaultKind
or_bad_data None = Err BadData
or_bad_data (Some n) = if is_integer n then Ok n else Err BadData

-- `integer` of a text
abbrev pub integer_of_text : List ℕ → Result ℤ FaultKind
integer_of_text text = or_bad_data (signed_digits text)

-- `integer` of a truth
abbrev pub integer_of_truth : Bool → ℤ
integer_of_truth true = pos 1
integer_of_truth false = pos 0
