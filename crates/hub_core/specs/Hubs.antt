-- What a hub is to a contract: its journal, and the number of entries that it has room for; what its calls leave.

use Rattle.std.specs.Prelude.{◌≡◌, ℕ, true, false, List, [], ◌∷◌, ◌++◌, Option, Some, None, ◌⊎◌, IsTrue}
use Rattle.job_calls.specs.declared.call.Call.{Call}
use Rattle.job_calls.specs.declared.call.Call.TheVariants.{Open}
use Rattle.job_calls.specs.declared.entry.Entry.{Entry}
use Rattle.job_calls.specs.declared.entry.Listed.{Listed}
use Rattle.job_calls.specs.declared.reply.Answer.TheVariants as answer
use Rattle.job_calls.specs.declared.reply.Reply.{Reply}
use Rattle.job_calls.specs.declared.reply.Reply.TheVariants.{Opened, Halt}
use Rattle.job_calls.specs.Answers.{answer_of}
use Rattle.job_calls.specs.Fitting.{fits, is_for_lane}
use Rattle.job_calls.specs.Models.{is_asked}
use Rattle.job_calls.specs.Replies.{CanAnswer}
use Rattle.job_calls.specs.Runs.{Opening, opening}
use Rattle.job_calls.specs.Entries.{own_entries, is_finish, unclaimed_run}
use Rattle.hub_core.specs.declared.held.Held.{Held}
use Rattle.hub_core.specs.declared.held.Held.TheVariants.{NotYet, Shut, NoMemory}
use Rattle.hub_core.specs.Room.{MayWant}

-- the journal of a hub
abbrev pub journal_of : List Entry × ℕ → List Entry
journal_of hub = hub.0

-- and the number of entries that it has room for
abbrev pub spare_of : List Entry × ℕ → ℕ
spare_of hub = hub.1

-- what a job is opened with
abbrev pub opened_with : ℕ → ℕ → List ℕ → List Listed → Opening
opened_with lanes budget params files =
    record { lanes = lanes; budget = budget; params = params; files = files }

-- the entry of a call and its reply
abbrev pub entry_of : ℕ → Option ℕ → Call → Reply → Entry
entry_of lane run call reply = record { lane = lane; run = run; call = call; reply = reply }

-- the journal of a job that has just been opened
abbrev pub first_journal : ℕ → ℕ → List ℕ → List Listed → List Entry
first_journal lanes budget params files =
    entry_of 0 None (Open lanes budget params files) Opened ∷ []

-- the journal with this entry at its end
abbrev pub with_entry : List Entry → ℕ → Option ℕ → Call → Reply → List Entry
with_entry journal lane run call reply = journal ++ entry_of lane run call reply ∷ []

-- the lane may make the call
abbrev pub MayMake : List Entry → ℕ → Option ℕ → Call → Type 0
MayMake journal lane run call =
    IsTrue (fits (opening journal) (own_entries lane journal) lane run call)

-- the journal answers the call so
abbrev pub IsAnswered : List Entry → ℕ → Option ℕ → Call → Reply → Type 0
IsAnswered journal lane run call reply = answer_of journal lane run call ≡ answer.Ready reply

-- the reply fits the call, if that is one of a run and not its end
abbrev pub FitsRun : Call → Reply → Type 0
FitsRun call reply = is_for_lane call ≡ false → is_finish call ≡ false → CanAnswer call reply

-- a run that was asked to stop is told so, or finishes
abbrev pub StopsRun : List Entry → Option ℕ → Call → Reply → Type 0
StopsRun journal run call reply =
    (k : ℕ) → run ≡ Some k → is_asked k journal ≡ true → (reply ≡ Halt) ⊎ (is_finish call ≡ true)

-- why a hub with this journal has handed the call back
abbrev pub IsHeldBack : List Entry → ℕ → Option ℕ → Call → Held → Type 0
IsHeldBack journal lane run call (NotYet same) =
    (same ≡ call) × (answer_of journal lane run call ≡ answer.NotYet)
IsHeldBack journal lane run call (Shut same) =
    (same ≡ call) × (answer_of journal lane run call ≡ answer.Shut)
IsHeldBack journal lane run call (NoMemory same) = same ≡ call

-- where it was for want of memory, the call may want some
abbrev pub LacksMemory : ℕ → Call → Held → Type 0
LacksMemory spare call (NotYet same) = Unit {0}
LacksMemory spare call (Shut same) = Unit {0}
LacksMemory spare call (NoMemory same) = MayWant spare call

-- a claim wants memory only to be told that the job is done, and where there is room for no more entry
abbrev pub LacksDone : List Entry × ℕ → Held → Type 0
LacksDone hub (NotYet same) = Unit {0}
LacksDone hub (Shut same) = Unit {0}
LacksDone hub (NoMemory same) = (spare_of hub ≡ 0) × (unclaimed_run (journal_of hub) ≡ None)
