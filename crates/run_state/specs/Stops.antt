-- How a run stops, and what can be told of it from outside.

use Rattle.std.specs.Prelude.{ℕ, ℤ, List}
use Rattle.mos_text.specs.declared.fault_kind.FaultKind.{FaultKind}
use Rattle.job_calls.specs.declared.call.Call.{Call}

-- how a run stops
pub data Stop : Type 0 where
  Exited : (code : ℤ) → Stop
  Failed : (kind : FaultKind) → Stop
  Spent : Stop  -- a tick was needed and none was left
  Stopped : Stop  -- it was asked to
  Asking : (call : Call) → Stop  -- no reply was left for this call
  Stuck : Stop  -- a value or an instruction did not find what it wants: no accepted model does this
  Lost : Stop  -- a name, a routine of that kind or a pass was not there: no accepted model does this

-- what can be told of a run from outside
pub record Outcome : Type 0 where
  pub output : List ℕ
  pub calls : List Call  -- the calls that were answered, in order
  pub ticks : ℕ  -- taken
  pub stop : Stop

-- an outcome with the number of instructions that were begun
pub record Course : Type 0 where
  pub outcome : Outcome
  pub steps : ℕ
