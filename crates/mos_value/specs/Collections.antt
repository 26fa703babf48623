-- Collections, as lists of scalars: a set, a list or an array has at most 1,000,000 items.

use Rattle.std.specs.Prelude.{ℕ, List, Result, Ok, Err, length, nat_le, if◌then◌else◌}
use Rattle.mos_text.specs.declared.fault_kind.FaultKind.{FaultKind}
use Rattle.mos_text.specs.declared.fault_kind.FaultKind.TheVariants.{TooBig}
use Rattle.mos_text.specs.declared.scalar.Scalar.{Scalar}

-- the most items of a collection
abbrev pub collection_limit : ℕ
collection_limit = 1000000

-- a collection of these items, or the fault of one that has too many
abbrev pub collection_of : List Scalar → Result (List Scalar) FaultKind
collection_of items = if nat_le (length items) collection_limit then Ok items else Err TooBig
