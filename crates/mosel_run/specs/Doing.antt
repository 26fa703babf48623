-- As the code goes about it: how deeds were done, and the status that comes of it.

use Rattle.std.specs.Prelude.{◌≡◌, ℕ, List, Option, Some, None, take, slice_get}
use Rattle.mos_text.specs.Content.{lose_file, SameElsewhere}
use Rattle.mos_text.specs.Faults.{Rose}
use Rattle.mos_text.specs.declared.folder.Stored.{Stored}
use Rattle.mos_text.specs.declared.folder.Stored.TheVariants as stored
use Rattle.mos_text.specs.declared.sink.Written.{Written}
use Rattle.mos_text.specs.declared.sink.Written.TheVariants as written
use Rattle.mosel_run.specs.declared.answer.Deed.{Deed}
use Rattle.mosel_run.specs.declared.answer.Deed.TheVariants.{Write, Store}
use Rattle.mosel_run.specs.declared.deliver.Cause.{Cause}
use Rattle.mosel_run.specs.declared.deliver.Cause.TheVariants.{SinkFault, FolderFault, NoMemory}
use Rattle.mosel_run.specs.declared.deliver.Doing.{Doing}
use Rattle.mosel_run.specs.declared.deliver.Doing.TheVariants.{All as AllDone, Broke}
use Rattle.mosel_run.specs.declared.status.Status.{Status}
use Rattle.mosel_run.specs.declared.status.Status.TheVariants as status
use Rattle.mosel_run.specs.Delivered.{WrotePart}
use Rattle.mosel_run.specs.States.{Devices, Held, held_of, held_by, held_after}

-- why a text was not written
abbrev pub IsWritten : Written → Option Cause → Type 0
IsWritten written.Whole cause = cause ≡ None
IsWritten written.Failed cause = cause ≡ Some SinkFault
IsWritten written.NoMemory cause = cause ≡ Some NoMemory

-- why a file was not put
abbrev pub IsStored : Stored → Option Cause → Type 0
IsStored stored.Done cause = cause ≡ None
IsStored stored.Failed cause = cause ≡ Some FolderFault
IsStored stored.NoMemory cause = cause ≡ Some NoMemory

-- the cause is one that such a deed can have
abbrev pub CanBreak : Deed → Cause → Type 0
CanBreak (Write text) SinkFault = Unit {0}
CanBreak (Write text) FolderFault = ⊥
CanBreak (Write text) NoMemory = Unit {0}
CanBreak (Store put) SinkFault = ⊥
CanBreak (Store put) FolderFault = Unit {0}
CanBreak (Store put) NoMemory = Unit {0}

-- the status where this deed was not done
abbrev pub IsStatusBy : Deed → Cause → Status → Type 0
IsStatusBy deed SinkFault result = result ≡ status.SinkFault
IsStatusBy (Write text) FolderFault result = ⊥
IsStatusBy (Store put) FolderFault result = result ≡ status.FolderFault put.name
IsStatusBy deed NoMemory result = result ≡ status.NoMemory

-- what is left of a deed that was not done, where the devices held this much before it
abbrev pub LeftBy : Devices → Devices → Held → Deed → Cause → Type 0
LeftBy before after held (Write text) SinkFault = WrotePart text held (held_of after) × Rose before.sink.faults after.sink.faults
LeftBy before after held (Write text) FolderFault = ⊥
LeftBy before after held (Write text) NoMemory = WrotePart text held (held_of after)
LeftBy before after held (Store put) SinkFault = ⊥
LeftBy before after held (Store put) FolderFault =
    (after.folder.content ≡ lose_file held.content put.name) × (after.sink.bytes ≡ held.bytes) × Rose before.folder.faults after.folder.faults
LeftBy before after held (Store put) NoMemory =
    SameElsewhere put.name held.content after.folder.content × (after.sink.bytes ≡ held.bytes)

-- the deed was done, or not for this cause
abbrev pub IsDone : Deed → Devices → Devices → Option Cause → Type 0
IsDone deed before after None = held_of after ≡ held_by (held_of before) deed
IsDone deed before after (Some cause) = LeftBy before after (held_of before) deed cause

-- the deeds before this place were done, and the one there was not
pub record StopsAt (deeds : List Deed) (before after : Devices) (place : ℕ) (cause : Cause) : Type 0 where
  pub deed : Deed
  pub deed_is : slice_get deeds place ≡ Some deed
  pub left : LeftBy before after (held_after (held_of before) (take place deeds)) deed cause

-- all deeds were done, or those before a place
abbrev pub IsDoing : List Deed → Devices → Devices → Doing → Type 0
IsDoing deeds before after AllDone = held_of after ≡ held_after (held_of before) deeds
IsDoing deeds before after (Broke place cause) = StopsAt deeds before after place cause
