-- What is known of a lane by its own entries: which run it holds, and that this run may go on.
use Rattle.std.specs.Prelude.{◌≡◌, ℕ, true, false, List, [], ◌∷◌, None, Some}
use Rattle.job_calls.specs.declared.call.Call.{Call}
use Rattle.job_calls.specs.declared.call.Call.TheVariants.{Open}
use Rattle.job_calls.specs.declared.entry.Entry.{Entry}
use Rattle.job_calls.specs.declared.entry.Listed.{Listed}
use Rattle.job_calls.specs.declared.reply.Reply.{Reply}
use Rattle.job_calls.specs.declared.reply.Reply.TheVariants.{Opened}
use Rattle.job_calls.specs.Fitting.{held_run, was_done, is_over, exchange_of, ends_fit, is_for_lane, may_claim, below_lanes}
use Rattle.job_calls.specs.Entries.{own_entries, is_finish}
use Rattle.hub_core.specs.Hubs.{entry_of}
use Rattle.hub_core.specs.Stories.{opened_by}
use Rattle.hub_lock.specs.Seats.{SeatState, first_entry, IsSeatOf, IsSameSeat, KeepState}

-- the lane's own entries
abbrev pub own : SeatState Entry → List Entry
own seat = own_entries seat.lane seat.seen

-- the seat is one of the lock, and its lane one of the job
pub record IsLane (keep : KeepState) (seat : SeatState Entry) : Type 0 where
  pub seat_of : IsSeatOf keep seat
  pub of_job : below_lanes seat.lane (opened_by (first_entry seat)) ≡ true

-- it is the same seat after calls
pub record IsKept (keep : KeepState) (old new : SeatState Entry) : Type 0 where
  pub lane : IsLane keep new
  pub same : IsSameSeat old new

-- the lane has called for no run yet
pub record IsFresh (seat : SeatState Entry) : Type 0 where
  pub free : may_claim (own seat) ≡ true
  pub silent : (k : ℕ) → exchange_of k (own seat) ≡ []
  pub going : was_done (own seat) ≡ false

-- the lane holds the run, which may go on
pub record IsHolding (run : ℕ) (seat : SeatState Entry) : Type 0 where
  pub holds : held_run (own seat) ≡ Some run
  pub goes : is_over (exchange_of run (own seat)) ≡ false
  pub going : was_done (own seat) ≡ false

-- a call that a run may make as long as it may go on, whatever ends of pipes it holds
pub record IsPlainCall (call : Call) : Type 0 where
  pub of_run : is_for_lane call ≡ false
  pub goes_on : is_finish call ≡ false
  pub no_end : (told : List (Call × Reply)) → ends_fit told call ≡ true

-- the journal of a job with three lanes that has just been opened
pub record OpensThree (journal : List Entry) : Type 0 where
  pub params : List ℕ
  pub files : List Listed
  pub opened : journal ≡ entry_of 0 None (Open 3 100 params files) Opened ∷ []
