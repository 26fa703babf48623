-- Functions of the library on integers.

use Rattle.std.specs.Prelude.{ℤ, pos, unsigned_abs, int_rem, Bool, not, List, [], ◌∷◌, Option, Some, None, fold, Result}
use Rattle.std.specs.Ordering.{int_eq}
use Rattle.std.specs.Int.{int_min, int_max}
use Rattle.mos_text.specs.declared.fault_kind.FaultKind.{FaultKind}
use Rattle.mos_value.specs.Numbers.{integer}

-- `abs`: the number without its sign, or the fault where it does not fit
abbrev pub absolute_of : ℤ → Result ℤ FaultKind
absolute_of a = integer (pos (unsigned_abs a))

-- `isodd`: two leaves something over
abbrev pub is_odd : ℤ → Bool
is_odd a = not (int_eq (int_rem a (pos 2)) (pos 0))

-- `minlist`: the least of these, where there is one
abbrev pub least_of : List ℤ → Option ℤ
least_of [] = None
least_of (n ∷ more) = Some (fold int_min n more)

-- `maxlist`: the greatest of these, where there is one
abbrev pub greatest_of : List ℤ → Option ℤ
greatest_of [] = None
greatest_of (n ∷ more) = Some (fold int_max n more)
