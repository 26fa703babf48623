-- A job whose one run makes no call: how it is opened, and how its run ends.

use Rattle.std.specs.Prelude.{ℕ, List}
use Rattle.job_calls.specs.declared.end.End.{End}
use Rattle.job_calls.specs.declared.end.End.TheVariants.{Code, Fault, Spent, Stopped, NoMemory}
use Rattle.job_calls.specs.declared.entry.Listed.{Listed}
use Rattle.job_calls.specs.Runs.{Opening}

-- a job over these files; the first is the one that runs, with this parameter text
abbrev pub opening_with : ℕ → ℕ → List ℕ → List Listed → Opening
opening_with lanes budget params files = record { lanes = lanes; budget = budget; params = params; files = files }

-- a run that ended by itself
abbrev pub IsOwnEnd : End → Type 0
IsOwnEnd (Code code) = Unit {0}
IsOwnEnd (Fault kind) = Unit {0}
IsOwnEnd Spent = Unit {0}
IsOwnEnd Stopped = ⊥
IsOwnEnd NoMemory = ⊥
