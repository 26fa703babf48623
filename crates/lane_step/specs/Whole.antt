-- The journal of a job that came to its end.

use Rattle.std.specs.Prelude.{◌≡◌, ◌≢◌, ℕ, ◌<◌, true, false, List, Some}
use Rattle.job_calls.specs.declared.end.End.TheVariants.{NoMemory}
use Rattle.job_calls.specs.declared.entry.Entry.{Entry}
use Rattle.job_calls.specs.Entries.{own_entries, has_quit, run_count, is_finished}
use Rattle.job_calls.specs.Runs.{Opening, opening, finish_of}
use Rattle.job_calls.specs.Legal.{IsLegal}
use Rattle.job_laws.specs.Lanes.{EndsDone}

-- one hub can have written it, opened so; no lane quit, each run ended, and each lane was told last that
-- the job is done
pub record IsWhole (o : Opening) (journal : List Entry) : Type 0 where
  pub legal : IsLegal journal
  pub opened : opening journal ≡ Some o
  pub no_quit : has_quit journal ≡ false
  pub all_finished : (run : ℕ) → run < run_count journal → is_finished run journal ≡ true
  pub all_done : (lane : ℕ) → lane < o.lanes → EndsDone (own_entries lane journal)

-- no run ended for want of memory
abbrev pub HadMemory : List Entry → Type 0
HadMemory journal = (run : ℕ) → finish_of run journal ≢ Some NoMemory
