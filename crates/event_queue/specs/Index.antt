-- Which journal an index of events stands for, and which entries it can take.

use Rattle.std.specs.Prelude.{◌≡◌, ℕ, List, length}
use Rattle.job_calls.specs.declared.entry.Entry.{Entry}
use Rattle.job_calls.specs.Entries.{is_finished}
use Rattle.job_calls.specs.Models.{parent_of}
use Rattle.job_calls.specs.Events.{queue}
use Rattle.event_queue.specs.declared.queues.EventQueue.{EventQueue}
use Rattle.event_queue.specs.Runs.{parent_at, ended_at, places_at}
use Rattle.event_queue.specs.Deeds.{deed_of, CanTell}

-- the index stands for the journal: it has counted its entries, and has the parent, the end and the queue of each run
pub record IsIndexOf (index : EventQueue) (journal : List Entry) : Type 0 where
  pub count : index.count ≡ length journal
  pub parents : (k : ℕ) → parent_at index.runs.items k ≡ parent_of k journal
  pub ended : (k : ℕ) → ended_at index.runs.items k ≡ is_finished k journal
  pub queues : (k : ℕ) → places_at index.runs.items k ≡ queue k journal

-- the index stands for each journal that the old one stood for
abbrev pub StandsFor : EventQueue → EventQueue → Type 0
StandsFor old new = (journal : List Entry) → IsIndexOf old journal → IsIndexOf new journal

-- the index can take the entry without memory
abbrev pub CanTake : EventQueue → Entry → Type 0
CanTake index e = CanTell index.runs.items (deed_of e.run e.call e.reply)
