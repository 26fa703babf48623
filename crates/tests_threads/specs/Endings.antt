-- What a journal says of the runs of a lane: no more and no less than the lane was told.
use Rattle.std.specs.Prelude.{◌≡◌, ℕ, true, List}
use Rattle.job_calls.specs.declared.entry.Entry.{Entry}
use Rattle.job_calls.specs.Fitting.{exchange_of}
use Rattle.job_calls.specs.Runs.{finish_of}
use Rattle.job_calls.specs.Entries.{is_claimed}
use Rattle.hub_lock.specs.Seats.{SeatState}
use Rattle.tests_threads.specs.Holding.{own}

-- the calls and replies of the run, and its end, are those of the lane's own entries
pub record TellsRun (run : ℕ) (seat : SeatState Entry) (journal : List Entry) : Type 0 where
  pub exchange : exchange_of run journal ≡ exchange_of run (own seat)
  pub end : finish_of run journal ≡ finish_of run (own seat)

-- so it is of each run that the lane was given
abbrev pub TellsRuns : SeatState Entry → List Entry → Type 0
TellsRuns seat journal = (run : ℕ) → is_claimed run (own seat) ≡ true → TellsRun run seat journal
