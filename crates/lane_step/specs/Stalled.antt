-- The journal of a job that stalled: a lane that was not told that the job is done waits with its open call,
-- and so does each such lane.

use Rattle.std.specs.Prelude.{◌≡◌, ℕ, ◌<◌, false, List, Option, Some, None, slice_get, ◌⊎◌}
use Rattle.job_calls.specs.declared.call.Call.{Call}
use Rattle.job_calls.specs.declared.call.Call.TheVariants.{Claim}
use Rattle.job_calls.specs.declared.entry.Entry.{Entry}
use Rattle.job_calls.specs.declared.reply.Answer.TheVariants.{NotYet}
use Rattle.job_calls.specs.declared.run_line.RunEnd.TheVariants.{Waiting}
use Rattle.job_calls.specs.declared.run_line.RunLine.{RunLine}
use Rattle.job_calls.specs.Answers.{answer_of}
use Rattle.job_calls.specs.Fitting.{held_run}
use Rattle.job_calls.specs.Legal.{IsLegal}
use Rattle.job_calls.specs.Runs.{Opening, opening}
use Rattle.job_calls.specs.Entries.{own_entries, has_quit}
use Rattle.job_laws.specs.Lanes.{EndsDone}

-- the open call of a lane: `Claim` where it holds no run, else the one that its run waits with, by the run's line
abbrev pub IsOpenCall : List RunLine → Option ℕ → Call → Type 0
IsOpenCall lines None call = call ≡ Claim
IsOpenCall lines (Some run) call = (line : RunLine) × (slice_get lines run ≡ Some line) × (line.end ≡ Waiting call)

-- the open call of the lane has no answer yet
abbrev pub Waits : List Entry → List RunLine → ℕ → Type 0
Waits journal lines lane = let held = held_run (own_entries lane journal) in
    (call : Call) × IsOpenCall lines held call × (answer_of journal lane held call ≡ NotYet)

-- one hub can have written it, opened so, and no lane quit; some lane waits, and each one waits or was told
-- last that the job is done
pub record IsStalled (o : Opening) (journal : List Entry) (lines : List RunLine) : Type 0 where
  pub legal : IsLegal journal
  pub opened : opening journal ≡ Some o
  pub no_quit : has_quit journal ≡ false
  pub some_waits : (lane : ℕ) × (lane < o.lanes) × Waits journal lines lane
  pub all_wait : (lane : ℕ) → lane < o.lanes → EndsDone (own_entries lane journal) ⊎ Waits journal lines lane
