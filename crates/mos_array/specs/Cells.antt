-- What cells hold, and the scalar that stands in one or in a field of one.

use Rattle.std.specs.Prelude.{◌≡◌, ℕ, Bool, true, false, List, length, nat_lt, if◌then◌else◌, slice_get, slice_set, Option, Some, None}
use Rattle.mos_text.specs.declared.scalar.Scalar.{Scalar}
use Rattle.mos_array.specs.declared.cells.CellValue.{CellValue}
use Rattle.mos_array.specs.declared.cells.CellValue.TheVariants.{One, Fields}

-- the scalar of a cell without fields, or that of the field of this number
abbrev pub part_of : Option ℕ → CellValue → Option Scalar
part_of None (One x) = Some x
part_of (Some n) (Fields xs) = slice_get xs n
part_of _ _ = None

-- the fields with another scalar in the field of this number, if there is one
abbrev pub with_field : ℕ → Scalar → List Scalar → Option CellValue
with_field n x xs = if nat_lt n (length xs) then Some (Fields (slice_set xs n x)) else None

-- the same cell with another scalar there
abbrev pub with_part : Option ℕ → Scalar → CellValue → Option CellValue
with_part None x (One _) = Some (One x)
with_part (Some n) x (Fields xs) = with_field n x xs
with_part _ _ _ = None

-- the cell becomes what it is to be, where it can, and it is told; otherwise it stays
abbrev pub Puts : (before after : CellValue) → Option CellValue → Bool → Type 0
Puts before after wanted true = wanted ≡ Some after
Puts before after wanted false = (wanted ≡ None) × (after ≡ before)
