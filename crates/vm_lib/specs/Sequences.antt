-- Functions of the library on sets, lists and ranges.

use Rattle.std.specs.Prelude.{ℕ, ◌+◌, ◌-◌, ℤ, pos, int_lt, List, Option, Some, None, length, take, drop, reverse, slice_get, position, Result, Ok, Err, if◌then◌else◌}
use Rattle.mos_text.specs.declared.fault_kind.FaultKind.{FaultKind}
use Rattle.mos_text.specs.declared.fault_kind.FaultKind.TheVariants.{Empty}
use Rattle.mos_text.specs.declared.scalar.Scalar.{Scalar}
use Rattle.mos_value.specs.Same.{is_same}
use Rattle.mos_value.specs.Values.{at_least_zero}

-- `getsize` of a set or list: the number of its items
abbrev pub size_of : List Scalar → ℤ
size_of items = pos (length items)

-- an item that is there, or the fault of none
abbrev pub or_empty : {A : Type 0} → Option A → Result A FaultKind
or_empty None = Err Empty
or_empty (Some x) = Ok x

-- `getfirst` of a list
abbrev pub first_of : List Scalar → Result Scalar FaultKind
first_of items = or_empty (slice_get items 0)

-- `getlast` of a list
abbrev pub last_of : List Scalar → Result Scalar FaultKind
last_of items = or_empty (slice_get items (length items - 1))

-- an end of a range, where there is an integer in it
abbrev pub end_of_range : (first last end : ℤ) → Result ℤ FaultKind
end_of_range first last end = if int_lt last first then Err Empty else Ok end

-- `getfirst` of a range
abbrev pub first_of_range : ℤ → ℤ → Result ℤ FaultKind
first_of_range first last = end_of_range first last first

-- `getlast` of a range
abbrev pub last_of_range : ℤ → ℤ → Result ℤ FaultKind
last_of_range first last = end_of_range first last last

-- `gethead`: the first so many items, none for a number below 0 and all for one above their number
abbrev pub head_of : List Scalar → ℤ → List Scalar
head_of items many = take (at_least_zero many) items

-- `gettail`: the last so many
abbrev pub tail_of : List Scalar → ℤ → List Scalar
tail_of items many = drop (length items - at_least_zero many) items

-- the place of an item from 1 on, or 0 for one that is not there
abbrev pub from_one : Option ℕ → ℕ
from_one None = 0
from_one (Some place) = place + 1

-- `findfirst`: the place of the first item that is this one
abbrev pub place_of_first : List Scalar → Scalar → ℕ
place_of_first items x = from_one (position (is_same x) items)

-- the place from 1 on of what stands so far from the end of so many, or 0
abbrev pub from_end : ℕ → Option ℕ → ℕ
from_end many None = 0
from_end many (Some place) = many - place

-- `findlast`: the place of the last one
abbrev pub place_of_last : List Scalar → Scalar → ℕ
place_of_last items x = from_end (length items) (position (is_same x) (reverse items))
