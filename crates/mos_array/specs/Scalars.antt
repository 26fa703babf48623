-- Scalars of arrays that are read and written. Where cells are records, the number of the field is one more
-- index, the last one.

use Rattle.std.specs.Prelude.{ℕ, pos, Bool, true, false, List, ◌-◌, length, take, slice_get, if◌then◌else◌, Option, Some, None, Result}
use Rattle.mos_text.specs.declared.fault_kind.FaultKind.{FaultKind}
use Rattle.mos_text.specs.declared.scalar.Scalar.{Scalar}
use Rattle.mos_text.specs.declared.scalar.Scalar.TheVariants.{Int}
use Rattle.mos_array.specs.Contents.{Content, get_part_of, put_part_of, and_then, or_range}
use Rattle.mos_array.specs.declared.cells.CellValue.{CellValue}
use Rattle.mos_array.specs.declared.cells.CellValue.TheVariants.{One, Fields}

-- the cells are records
abbrev pub holds_fields : CellValue → Bool
holds_fields (One x) = false
holds_fields (Fields xs) = true

-- the number of a field, from 0
abbrev pub field_number : Scalar → Option ℕ
field_number (Int (pos n)) = Some n
field_number _ = None

-- the number of a field, where one is given
abbrev pub numbered : Option Scalar → Option ℕ
numbered None = None
numbered (Some number) = field_number number

-- an index list but for its last item
abbrev pub front : List Scalar → List Scalar
front at = take (length at - 1) at

-- its last item
abbrev pub last_of : List Scalar → Option Scalar
last_of at = slice_get at (length at - 1)

-- a field that is read
abbrev pub get_field_of : List Scalar → Option Scalar → Content → Result Scalar FaultKind
get_field_of at number array =
    and_then (or_range (numbered number)) (λ n. get_part_of at (Some n) array)

-- a scalar that is read
abbrev pub get_of : List Scalar → Content → Result Scalar FaultKind
get_of at array = if holds_fields array.default then get_field_of (front at) (last_of at) array else get_part_of at None array

-- a field that is written
abbrev pub put_field_of : List Scalar → Option Scalar → Scalar → Content → Result Content FaultKind
put_field_of at number value array =
    and_then (or_range (numbered number)) (λ n. put_part_of at (Some n) value array)

-- a scalar that is written
abbrev pub put_of : List Scalar → Scalar → Content → Result Content FaultKind
put_of at value array =
    if holds_fields array.default then put_field_of (front at) (last_of at) value array else put_part_of at None value array
