-- What a user of arrays may count on.

use Rattle.std.specs.Prelude.{◌≡◌, ◌≢◌, ◌⊎◌, ◌↔◌, ◌++◌, [], ◌∷◌, false, List, length, None, Ok, Err}
use Rattle.mos_text.specs.declared.fault_kind.FaultKind.TheVariants.{Range}
use Rattle.mos_text.specs.declared.scalar.Scalar.{Scalar}
use Rattle.mos_array.specs.Contents.{Content, place_of, has_cell, get_cell_of, put_cell_of}
use Rattle.mos_array.specs.Rows.{with_index, index_lists}
use Rattle.mos_array.specs.declared.cells.CellValue.{CellValue}

-- index lists and cells stand side by side
abbrev pub IsWhole : Content → Type 0
IsWhole array = length array.indexes ≡ length array.cells

-- a cell that was written holds the value
abbrev pub WrittenIsRead : Type 0
WrittenIsRead = (at : List Scalar) (value : CellValue) (before after : Content) → IsWhole before
    → put_cell_of at value before ≡ Ok after → get_cell_of at after ≡ Ok value

-- all other cells hold what they held
abbrev pub OthersStay : Type 0
OthersStay = (at other : List Scalar) (value : CellValue) (before after : Content) → IsWhole before
    → other ≢ at → put_cell_of at value before ≡ Ok after → get_cell_of other after ≡ get_cell_of other before

-- the order stays, and a new cell stands behind the others
abbrev pub OrderStays : Type 0
OrderStays = (at : List Scalar) (value : CellValue) (before after : Content) → put_cell_of at value before ≡ Ok after
    → (after.indexes ≡ before.indexes) ⊎ ((place_of at before ≡ None) × (after.indexes ≡ before.indexes ++ at ∷ []))

-- a dense array keeps its index lists
abbrev pub DenseStays : Type 0
DenseStays = (at : List Scalar) (value : CellValue) (before after : Content) → before.dynamic ≡ false
    → put_cell_of at value before ≡ Ok after → after.indexes ≡ before.indexes

-- reading a dense array is RANGE exactly where it has no cell
abbrev pub RangeIsOutside : Type 0
RangeIsOutside = (at : List Scalar) (array : Content) → array.dynamic ≡ false
    → (get_cell_of at array ≡ Err Range) ↔ (has_cell at array ≡ false)

-- so is writing
abbrev pub RangeIsOutsideToo : Type 0
RangeIsOutsideToo = (at : List Scalar) (value : CellValue) (array : Content) → array.dynamic ≡ false
    → (put_cell_of at value array ≡ Err Range) ↔ (has_cell at array ≡ false)

-- the last index is the fastest: behind each index list over the sets before stand all members of the last one
abbrev pub LastIsFastest : Type 0
LastIsFastest = (sets : List (List Scalar)) (members : List Scalar)
    → index_lists (sets ++ members ∷ []) ≡ with_index (index_lists sets) members
