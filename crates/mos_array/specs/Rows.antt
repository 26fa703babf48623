-- Index lists of a dense array, in row order.

use Rattle.std.specs.Prelude.{Bool, false, List, [], ◌∷◌, ◌++◌, length, map, replicate, fold, flat_map, nat_eq, nat_le, if◌then◌else◌, Result, Ok, Err}
use Rattle.mos_text.specs.declared.fault_kind.FaultKind.{FaultKind}
use Rattle.mos_text.specs.declared.fault_kind.FaultKind.TheVariants.{TooBig}
use Rattle.mos_text.specs.declared.scalar.Scalar.{Scalar}
use Rattle.mos_value.specs.Collections.{collection_limit}
use Rattle.mos_array.specs.Contents.{Content, and_then}
use Rattle.mos_array.specs.declared.cells.CellValue.{CellValue}

-- the list with each of the members behind it
abbrev pub with_each : List Scalar → List Scalar → List (List Scalar)
with_each at members = map (λ x. at ++ x ∷ []) members

-- each of the lists with each of the members behind it
abbrev pub with_index : List (List Scalar) → List Scalar → List (List Scalar)
with_index lists members = flat_map (λ at. with_each at members) lists

-- the index lists over these index sets, in row order: the last index is the fastest
abbrev pub index_lists : List (List Scalar) → List (List Scalar)
index_lists sets = fold with_index ([] ∷ []) sets

-- lists of indexes, or the fault of too many cells
abbrev pub few_lists : List (List Scalar) → Result (List (List Scalar)) FaultKind
few_lists lists = if nat_le (length lists) collection_limit then Ok lists else Err TooBig

-- those over these index sets
abbrev pub lists_of : List (List Scalar) → Result (List (List Scalar)) FaultKind
lists_of sets = few_lists (index_lists sets)

-- an index set without a member
abbrev pub is_empty : List Scalar → Bool
is_empty set = nat_eq (length set) 0

-- a dense array with a cell for each of these lists, each with the default
abbrev pub with_cells : CellValue → List (List Scalar) → Content
with_cells default lists = record { dynamic = false; default = default; indexes = lists; cells = replicate (length lists) default }

-- a dense array over these index sets
abbrev pub dense_of : CellValue → List (List Scalar) → Result Content FaultKind
dense_of default sets = and_then (lists_of sets) (λ lists. Ok (with_cells default lists))
