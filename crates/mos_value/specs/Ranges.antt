-- Ranges: the integers from one to another.

use Rattle.std.specs.Prelude.{ℕ, ℤ, pos, ◌+ℤ◌, ◌-ℤ◌, List, Result}
use Rattle.mos_text.specs.declared.scalar.Scalar.{Scalar}
use Rattle.mos_text.specs.declared.fault_kind.FaultKind.{FaultKind}
use Rattle.mos_value.specs.Collections.{collection_of}
use Rattle.mos_value.specs.Numbers.{integer}
use Rattle.mos_value.specs.Values.{at_least_zero, integers_from}

-- how many integers there are from the first to the last: none where the last is below the first
abbrev pub range_count : ℤ → ℤ → ℕ
range_count first last = at_least_zero (last -ℤ first +ℤ pos 1)

-- the integers from the first to the last, rising
abbrev pub range_members : ℤ → ℤ → List Scalar
range_members first last = integers_from first (range_count first last)

-- the set of them
abbrev pub range_set : ℤ → ℤ → Result (List Scalar) FaultKind
range_set first last = collection_of (range_members first last)

-- their number as an integer, or the fault of one that does not fit
abbrev pub range_size : ℤ → ℤ → Result ℤ FaultKind
range_size first last = integer (pos (range_count first last))
