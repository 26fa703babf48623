-- What an array is: index lists with cells, in order; and what reading and writing make of it.

use Rattle.std.specs.Prelude.{ℕ, Bool, true, false, ◌&&◌, List, [], ◌∷◌, ◌++◌, length, nat_lt, nat_eq, if◌then◌else◌, slice_index_or, slice_set, remove, position, Option, Some, None, is_some, Result, Ok, Err}
use Rattle.mos_text.specs.declared.fault_kind.FaultKind.{FaultKind}
use Rattle.mos_text.specs.declared.fault_kind.FaultKind.TheVariants.{Range, TooBig}
use Rattle.mos_text.specs.declared.scalar.Scalar.{Scalar}
use Rattle.mos_value.specs.Collections.{collection_limit}
use Rattle.mos_value.specs.Same.{is_same}
use Rattle.mos_array.specs.Cells.{part_of, with_part}
use Rattle.mos_array.specs.declared.cells.CellValue.{CellValue}

-- an array: what its kind is, what a new cell holds, the index lists of its cells in their order, and in the
-- same order what the cells hold
pub record Content : Type 0 where
  pub dynamic : Bool
  pub default : CellValue
  pub indexes : List (List Scalar)
  pub cells : List CellValue

-- two index lists are one
abbrev pub same_indexes : List Scalar → List Scalar → Bool
same_indexes [] [] = true
same_indexes (x ∷ xs) (y ∷ ys) = is_same x y && same_indexes xs ys
same_indexes [] (y ∷ ys) = false
same_indexes (x ∷ xs) [] = false

-- the place of the first list that is this one
abbrev pub place_among : List Scalar → List (List Scalar) → Option ℕ
place_among at lists = position (same_indexes at) lists

-- the place of a cell in the order of the array
abbrev pub place_of : List Scalar → Content → Option ℕ
place_of at array = place_among at array.indexes

-- the cell is there
abbrev pub has_cell : List Scalar → Content → Bool
has_cell at array = is_some (place_of at array)

-- where there is no such cell, or no such part in it, nothing can be read or written: RANGE
abbrev pub or_range : {A : Type 0} → Option A → Result A FaultKind
or_range None = Err Range
or_range (Some x) = Ok x

-- behind what was found
abbrev pub and_then : {A B : Type 0} → Result A FaultKind → (A → Result B FaultKind) → Result B FaultKind
and_then (Ok x) f = f x
and_then (Err fault) f = Err fault

-- what the cell of this place holds. Where there is none a dynamic array has the default, a dense one nothing
abbrev pub cell_or_default : Content → Option ℕ → Option CellValue
cell_or_default array (Some n) = Some (slice_index_or array.cells n array.default)
cell_or_default array None = if array.dynamic then Some array.default else None

-- a cell that is read
abbrev pub get_cell_of : List Scalar → Content → Result CellValue FaultKind
get_cell_of at array = or_range (cell_or_default array (place_of at array))

-- the array with one cell more, behind the others
abbrev pub with_new_cell : List Scalar → CellValue → Content → Result Content FaultKind
with_new_cell at value array =
    if nat_lt (length array.indexes) collection_limit
    then Ok (record array { indexes = array.indexes ++ at ∷ []; cells = array.cells ++ value ∷ [] })
    else Err TooBig

-- with a cell made, which a dense array does not do
abbrev pub with_made : List Scalar → CellValue → Content → Result Content FaultKind
with_made at value array = if array.dynamic then with_new_cell at value array else Err Range

-- with another value in the cell of this place, or where there is none with the cell made
abbrev pub with_cell : List Scalar → CellValue → Content → Option ℕ → Result Content FaultKind
with_cell at value array (Some n) = Ok (record array { cells = slice_set array.cells n value })
with_cell at value array None = with_made at value array

-- a cell that is written
abbrev pub put_cell_of : List Scalar → CellValue → Content → Result Content FaultKind
put_cell_of at value array = with_cell at value array (place_of at array)

-- a scalar that is read, from a cell or from the field of this number of one
abbrev pub get_part_of : List Scalar → Option ℕ → Content → Result Scalar FaultKind
get_part_of at field array = and_then (get_cell_of at array) (λ cell. or_range (part_of field cell))

-- the cell of this index list, changed
abbrev pub put_changed : List Scalar → Option CellValue → Content → Result Content FaultKind
put_changed at changed array = and_then (or_range changed) (λ cell. put_cell_of at cell array)

-- a scalar that is written; the other fields of the cell stay
abbrev pub put_part_of : List Scalar → Option ℕ → Scalar → Content → Result Content FaultKind
put_part_of at field x array = and_then (get_cell_of at array) (λ cell. put_changed at (with_part field x cell) array)

-- the cell of this place, changed
abbrev pub changed_at : ℕ → Option CellValue → Content → Result Content FaultKind
changed_at n changed array = and_then (or_range changed) (λ cell. Ok (record array { cells = slice_set array.cells n cell }))

-- the cell of this place with another scalar in it
abbrev pub with_part_at : ℕ → Option ℕ → Scalar → Content → Result Content FaultKind
with_part_at n field x array = changed_at n (with_part field x (slice_index_or array.cells n array.default)) array

-- a new cell, changed
abbrev pub made_with : List Scalar → Option CellValue → Content → Result Content FaultKind
made_with at changed array = and_then (or_range changed) (λ cell. with_made at cell array)

-- `create`: the cell is made with the default; one that is there is kept
abbrev pub with_kept : List Scalar → Content → Option ℕ → Result Content FaultKind
with_kept at array (Some n) = Ok array
with_kept at array None = with_made at array.default array

-- the same, of an index list
abbrev pub make_of : List Scalar → Content → Result Content FaultKind
make_of at array = with_kept at array (place_of at array)

-- without the cell of this place
abbrev pub without_place : Content → Option ℕ → Content
without_place array None = array
without_place array (Some n) = record array { indexes = remove array.indexes n; cells = remove array.cells n }

-- `delcell`
abbrev pub without_cell : List Scalar → Content → Content
without_cell at array = without_place array (place_of at array)

-- `::`: as many values as there are cells, in their order
abbrev pub fill_of : List CellValue → Content → Result Content FaultKind
fill_of values array = if nat_eq (length values) (length array.cells) then Ok (record array { cells = values }) else Err Range

-- a new array without cells: a dynamic one, or a dense one before its declaration
abbrev pub no_cells : Bool → CellValue → Content
no_cells dynamic default = record { dynamic = dynamic; default = default; indexes = []; cells = [] }
