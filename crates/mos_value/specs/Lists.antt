-- What operators make of lists, which keep their order and hold what stands in them twice.

use Rattle.std.specs.Prelude.{List, ◌++◌, Result}
use Rattle.mos_text.specs.declared.fault_kind.FaultKind.{FaultKind}
use Rattle.mos_text.specs.declared.scalar.Scalar.{Scalar}
use Rattle.mos_value.specs.Collections.{collection_of}

-- `+` between lists: the one's items, and behind them the other's
abbrev pub chain_of : List Scalar → List Scalar → Result (List Scalar) FaultKind
chain_of left right = collection_of (left ++ right)
