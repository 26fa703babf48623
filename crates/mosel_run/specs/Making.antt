-- As the code goes about it: a job over one source.

use Rattle.std.specs.Prelude.{◌≡◌, ◌≢◌, ◌≤◌, ℕ, List, [], ◌∷◌, Option, Some, None, pos, length, ◌⊎◌}
use Rattle.mos_text.specs.Limits.{source_limit}
use Rattle.job_calls.specs.declared.end.End.{End}
use Rattle.job_calls.specs.declared.end.End.TheVariants as end
use Rattle.job_calls.specs.declared.entry.Listed.{Listed}
use Rattle.mos_words.specs.declared.command_line.commands.Command.TheVariants.{Run}
use Rattle.mosel_run.specs.declared.status.Status.{Status}
use Rattle.mosel_run.specs.declared.status.Status.TheVariants.{Done, MasterFailed, MasterSpent}
use Rattle.mosel_run.specs.Answered.{request_of}
use Rattle.mosel_run.specs.Run.{Request}

-- an accepted source as a listed file
abbrev pub listed_file : List ℕ → List ℕ → Listed
listed_file name source = record { name = name; bytes = source; code = 0 }

-- one source, in size
abbrev pub IsOneSource : List (List ℕ) → Type 0
IsOneSource [] = ⊥
IsOneSource (source ∷ others) = (length source ≤ source_limit) × (others ≡ [])

-- what `run` of this source asks for
abbrev pub run_request : List ℕ → ℕ → ℕ → Request
run_request name lanes budget = request_of (Run name lanes budget)

-- the status of a job whose run 0 ended so
abbrev pub IsStatusAtEnd : Option End → Status → Type 0
IsStatusAtEnd (Some (end.Code code)) status = ((code ≡ pos 0) × (status ≡ Done)) ⊎ ((code ≢ pos 0) × (status ≡ MasterFailed))
IsStatusAtEnd (Some (end.Fault kind)) status = status ≡ MasterFailed
IsStatusAtEnd (Some end.Spent) status = status ≡ MasterSpent
IsStatusAtEnd (Some end.Stopped) status = ⊥
IsStatusAtEnd (Some end.NoMemory) status = ⊥
IsStatusAtEnd None status = ⊥
