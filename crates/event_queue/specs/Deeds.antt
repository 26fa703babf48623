-- What an entry does to runs and their queues, and the room that it takes.

use Rattle.std.specs.Prelude.{◌≡◌, ◌<◌, ℕ, List, Option, Some, None, nat_eq, length, if◌then◌else◌}
use Rattle.job_calls.specs.declared.call.Call.{Call}
use Rattle.job_calls.specs.declared.call.Call.TheVariants.{Finish, Run as Begin, Send}
use Rattle.job_calls.specs.declared.reply.Reply.{Reply}
use Rattle.job_calls.specs.declared.reply.Reply.TheVariants.{Queued, Started}
use Rattle.event_queue.specs.declared.deed.Deed.{Deed}
use Rattle.event_queue.specs.declared.deed.Deed.TheVariants.{Starts, Sends, Ends, Nothing}
use Rattle.event_queue.specs.declared.run.Run.{Run}
use Rattle.event_queue.specs.Runs.{parent_at, ended_at, RoomAt}

-- what an entry does, by its run, call and reply
abbrev pub deed_of : Option ℕ → Call → Reply → Deed
deed_of run (Send to class value) (Queued taker) = Sends taker
deed_of (Some caller) (Begin model params) (Started run) = Starts run caller
deed_of (Some run) (Finish end) reply = Ends run
deed_of run call reply = Nothing

-- the run whose start or end is told
abbrev pub subject : Deed → Option ℕ
subject (Starts run caller) = Some run
subject (Sends to) = None
subject (Ends run) = Some run
subject Nothing = None

-- the run whose queue takes an event, or is to keep room for one
abbrev pub keeper : List Run → Deed → Option ℕ
keeper runs (Starts run caller) = Some caller
keeper runs (Sends to) = Some to
keeper runs (Ends run) = if ended_at runs run then parent_at runs run else None
keeper runs Nothing = None

-- the run that an event comes to
abbrev pub receiver : List Run → Deed → Option ℕ
receiver runs (Starts run caller) = None
receiver runs (Sends to) = Some to
receiver runs (Ends run) = parent_at runs run
receiver runs Nothing = None

-- the run that run k is started by
abbrev pub starter : ℕ → Deed → Option ℕ
starter k (Starts run caller) = if nat_eq run k then Some caller else None
starter k (Sends to) = None
starter k (Ends run) = None
starter k Nothing = None

-- the run that ends
abbrev pub ender : Deed → Option ℕ
ender (Starts run caller) = None
ender (Sends to) = None
ender (Ends run) = Some run
ender Nothing = None

-- there are places and room for what is done
pub record CanTell (runs : List Run) (deed : Deed) : Type 0 where
  pub covers : (k : ℕ) → subject deed ≡ Some k → k < length runs
  pub room : (k : ℕ) → keeper runs deed ≡ Some k → RoomAt runs k
