-- Words on a journal: filters and counts of its list of entries.

use Rattle.std.specs.Prelude.{ℕ, ◌+◌, Bool, true, false, ◌&&◌, List, Option, Some, None, nat_eq, filter, count_by, if◌then◌else◌, zero, suc}
use Rattle.std.specs.List.{list_any}
use Rattle.job_calls.specs.declared.call.Call.{Call}
use Rattle.job_calls.specs.declared.call.Call.TheVariants.{Claim, Quit, Finish}
use Rattle.job_calls.specs.declared.reply.Reply.{Reply}
use Rattle.job_calls.specs.declared.reply.Reply.TheVariants.{Claimed, Done, Started, Halt, Fault, Unit as UnitReply}
use Rattle.job_calls.specs.declared.entry.Entry.{Entry}

-- the entry was called by this run
abbrev pub is_run : ℕ → Option ℕ → Bool
is_run k None = false
is_run k (Some run) = nat_eq run k

-- the lane ends the job before its time
abbrev pub is_quit : Call → Bool
is_quit Quit = true
is_quit _ = false

-- the lane asks for a run
abbrev pub is_claim : Call → Bool
is_claim Claim = true
is_claim _ = false

-- the run has ended
abbrev pub is_finish : Call → Bool
is_finish (Finish end) = true
is_finish _ = false

-- a run was started
abbrev pub is_started : Reply → Bool
is_started (Started run) = true
is_started _ = false

-- the lane was given this run
abbrev pub claims : ℕ → Reply → Bool
claims k (Claimed run source params) = nat_eq run k
claims k _ = false

-- the job is done
abbrev pub is_done : Reply → Bool
is_done Done = true
is_done _ = false

-- the run was told to end: it calls nothing any more but `Finish`
abbrev pub is_last : Reply → Bool
is_last Halt = true
is_last (Fault kind) = true
is_last _ = false

-- the call was accepted
abbrev pub is_unit : Reply → Bool
is_unit UnitReply = true
is_unit _ = false

-- the entries of one lane
abbrev pub own_entries : ℕ → List Entry → List Entry
own_entries lane journal = filter (λ e. nat_eq e.lane lane) journal

-- the job was ended before its time
abbrev pub has_quit : List Entry → Bool
has_quit journal = list_any (λ e. is_quit e.call) journal

-- the runs that there are: run 0, and one for each that was started
abbrev pub run_count : List Entry → ℕ
run_count journal = count_by (λ e. is_started e.reply) journal + 1

-- a lane was given the run
abbrev pub is_claimed : ℕ → List Entry → Bool
is_claimed k journal = list_any (λ e. claims k e.reply) journal

-- the run has ended
abbrev pub is_finished : ℕ → List Entry → Bool
is_finished k journal = list_any (λ e. is_run k e.run && is_finish e.call) journal

-- the least run from `from` on, of so many, that no lane was given
abbrev pub first_unclaimed : List Entry → ℕ → ℕ → Option ℕ
first_unclaimed journal from zero = None
first_unclaimed journal from (suc many) =
    if is_claimed from journal then first_unclaimed journal (from + 1) many else Some from

-- the least run that no lane was given
abbrev pub unclaimed_run : List Entry → Option ℕ
unclaimed_run journal = first_unclaimed journal 0 (run_count journal)
