-- The journal of a job on one thread, whose one run makes no call: lane 0 opens, claims run 0 and
-- finishes it; then each lane, in turn from lane 1 and lane 0 last, is told that the job is done.

use Rattle.std.specs.Prelude.{ℕ, ◌+◌, ◌-◌, zero, suc, List, [], ◌∷◌, Some, None}
use Rattle.job_calls.specs.declared.call.Call.TheVariants.{Open, Claim, Finish}
use Rattle.job_calls.specs.declared.end.End.{End}
use Rattle.job_calls.specs.declared.reply.Reply.TheVariants.{Opened, Claimed, Done, Unit as UnitReply}
use Rattle.job_calls.specs.declared.entry.Entry.{Entry}
use Rattle.job_calls.specs.Runs.{Opening}

-- lane 0 opens the job
abbrev pub open_entry : Opening → Entry
open_entry o = record { lane = 0; run = None; call = Open o.lanes o.budget o.params o.files; reply = Opened }

-- it claims run 0
abbrev pub claim_entry : List ℕ → Entry
claim_entry params = record { lane = 0; run = None; call = Claim; reply = Claimed 0 0 params }

-- which ends
abbrev pub finish_entry : End → Entry
finish_entry end = record { lane = 0; run = Some 0; call = Finish end; reply = UnitReply }

-- a lane is told that the job is done
abbrev pub done_entry : ℕ → Entry
done_entry lane = record { lane = lane; run = None; call = Claim; reply = Done }

-- so many lanes from `lane` on, then lane 0
abbrev pub done_entries : ℕ → ℕ → List Entry
done_entries lane zero = done_entry 0 ∷ []
done_entries lane (suc many) = done_entry lane ∷ done_entries (lane + 1) many

-- the whole journal
abbrev pub schedule_of : Opening → End → List Entry
schedule_of o end = open_entry o ∷ claim_entry o.params ∷ finish_entry end ∷ done_entries 1 (o.lanes - 1)
