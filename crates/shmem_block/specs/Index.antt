-- Which journal an index of the last writes stands for, and which entries it can take.

use Rattle.std.specs.Prelude.{◌≡◌, ℕ, true, false, List, length}
use Rattle.std.specs.Str.{bytes_eq}
use Rattle.job_calls.specs.declared.entry.Entry.{Entry}
use Rattle.job_calls.specs.Blocks.{writes, last_write}
use Rattle.shmem_block.specs.declared.blocks.Blocks.{Blocks}
use Rattle.shmem_block.specs.Names.{place_under, IsKnown}

-- the index stands for the journal: it has counted its entries, and has the place of the last write under each name
pub record IsIndexOf (blocks : Blocks) (journal : List Entry) : Type 0 where
  pub count : blocks.count ≡ length journal
  pub writes : (name : List ℕ) → place_under name blocks.writes ≡ last_write name journal

-- the index stands for each journal that the old one stood for
abbrev pub StandsFor : Blocks → Blocks → Type 0
StandsFor old new = (journal : List Entry) → IsIndexOf old journal → IsIndexOf new journal

-- the index can take the entry without memory: it knows the name that is written under, if there is one
abbrev pub CanTake : Blocks → Entry → Type 0
CanTake blocks e = (name : List ℕ) → writes name e.call e.reply ≡ true → IsKnown name blocks.writes

-- nothing is written
abbrev pub WritesNothing : Entry → Type 0
WritesNothing e = (name : List ℕ) → writes name e.call e.reply ≡ false

-- bytes are written under this name
abbrev pub WritesUnder : List ℕ → Entry → Type 0
WritesUnder written e = (name : List ℕ) → writes name e.call e.reply ≡ bytes_eq written name
