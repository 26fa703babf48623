-- Which journal the indexes stand for, and which entries they can take.

use Rattle.std.specs.Prelude.{◌≡◌, ◌-◌, List}
use Rattle.job_calls.specs.declared.entry.Entry.{Entry}
use Rattle.job_calls.specs.Weights.{weight}
use Rattle.model_table.specs.Index as models
use Rattle.event_queue.specs.Index as events
use Rattle.shmem_block.specs.Index as blocks
use Rattle.mempipe.specs.Index as pipes
use Rattle.hub_index.specs.declared.index.HubIndex.{HubIndex}

-- each index stands for the journal, and so many bytes may still be weighed, less one
pub record IsIndexOf (index : HubIndex) (journal : List Entry) : Type 0 where
  pub models : models.IsIndexOf index.models journal
  pub events : events.IsIndexOf index.events journal
  pub blocks : blocks.IsIndexOf index.blocks journal
  pub pipes : pipes.IsIndexOf index.pipes journal
  pub left : index.left ≡ 268435457 - weight journal

-- the indexes stand for each journal that the old ones stood for
abbrev pub StandsFor : HubIndex → HubIndex → Type 0
StandsFor old new = (journal : List Entry) → IsIndexOf old journal → IsIndexOf new journal

-- each index can take the entry without memory
pub record CanTake (index : HubIndex) (e : Entry) : Type 0 where
  pub models : models.CanTake index.models e
  pub events : events.CanTake index.events e
  pub blocks : blocks.CanTake index.blocks e
  pub pipes : pipes.CanTake index.pipes e
