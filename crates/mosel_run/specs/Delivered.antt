-- What the devices did with an answer, the same for all commands: its deeds in order, up to one that was not
-- done.

use Rattle.std.specs.Prelude.{◌≡◌, ℕ, List, ◌∷◌, ◌++◌}
use Rattle.mos_text.specs.Content.{lose_file, SameElsewhere}
use Rattle.mos_text.specs.Faults.{Rose}
use Rattle.mos_text.specs.SinkBytes.{AppendedPart}
use Rattle.mosel_run.specs.declared.answer.Answer.{Answer}
use Rattle.mosel_run.specs.declared.answer.Deed.{Deed}
use Rattle.mosel_run.specs.declared.answer.Deed.TheVariants.{Write, Store}
use Rattle.mosel_run.specs.declared.answer.Put.{Put}
use Rattle.mosel_run.specs.declared.status.Status.{Status}
use Rattle.mosel_run.specs.declared.status.Status.TheVariants.{FolderFault, SinkFault, NoMemory}
use Rattle.mosel_run.specs.States.{Devices, Held, held_of, held_after}

-- a first part of a text was written, and no file was touched
pub record WrotePart (text : List ℕ) (held left : Held) : Type 0 where
  pub part : AppendedPart held.bytes left.bytes text
  pub same_files : left.content ≡ held.content

-- what is left of a deed that was not done, by the status, where the devices held this much before it
pub data Broke (before after : Devices) (held : Held) : Deed → Status → Type 0 where
  -- the sink failed, and its count rose
  unwritten : (text : List ℕ) → WrotePart text held (held_of after) → Rose before.sink.faults after.sink.faults
      → Broke before after held (Write text) SinkFault
  -- the folder failed at this name, and its count rose: the bytes of the name are unknown now
  unput : (put : Put) → after.folder.content ≡ lose_file held.content put.name → after.sink.bytes ≡ held.bytes
      → Rose before.folder.faults after.folder.faults → Broke before after held (Store put) (FolderFault put.name)
  -- memory was wanting to write, or to put: of the one name that was to be put then nothing is claimed
  no_memory_to_write : (text : List ℕ) → WrotePart text held (held_of after) → Broke before after held (Write text) NoMemory
  no_memory_to_put : (put : Put) → SameElsewhere put.name held.content after.folder.content → after.sink.bytes ≡ held.bytes
      → Broke before after held (Store put) NoMemory

-- what the devices have taken of an answer, by the status
pub data Delivered (answer : Answer) (before after : Devices) : Status → Type 0 where
  -- all deeds were done
  whole : (status : Status) → status ≡ answer.status → held_of after ≡ held_after (held_of before) answer.deeds
      → Delivered answer before after status
  -- one was not; those before it were done, and none behind it
  broken : (status : Status) (first rest : List Deed) (deed : Deed) → answer.deeds ≡ first ++ deed ∷ rest
      → Broke before after (held_after (held_of before) first) deed status → Delivered answer before after status
