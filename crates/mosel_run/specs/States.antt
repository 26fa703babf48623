-- What is known of the devices, before a call and after it.

use Rattle.std.specs.Prelude.{ℕ, List, Option}
use Rattle.std.specs.List.{fold}
use Rattle.mos_text.specs.Content.{Files, put_file}
use Rattle.mos_text.specs.declared.folder.Folder.{Ghosts as FolderGhosts}
use Rattle.mos_text.specs.declared.sink.Sink.{Ghosts as SinkGhosts}
use Rattle.mos_text.specs.SinkBytes.{bytes_after}
use Rattle.mosel_run.specs.declared.answer.Deed.{Deed}
use Rattle.mosel_run.specs.declared.answer.Deed.TheVariants.{Write, Store}

-- what is known of a folder, and its count of faults
pub record FolderState : Type 0 where
  pub content : Option Files
  pub faults : ℕ

-- what is known of a sink, and its count of faults
pub record SinkState : Type 0 where
  pub bytes : Option (List ℕ)
  pub faults : ℕ

-- both devices
pub record Devices : Type 0 where
  pub folder : FolderState
  pub sink : SinkState

-- the state of a folder
abbrev pub folder_state : Option Files → ℕ → FolderState
folder_state content faults = record { content = content; faults = faults }

-- a folder's content and count, then a sink's bytes and count
abbrev pub states : Option Files → ℕ → Option (List ℕ) → ℕ → Devices
states content folder_faults bytes sink_faults = record { folder = folder_state content folder_faults; sink = record { bytes = bytes; faults = sink_faults } }

-- a folder, by what its trait says of it
abbrev pub folder_of : {F : Type 0} → FolderGhosts F → F → FolderState
folder_of told folder = folder_state (told.content folder) (told.faults folder)

-- both devices, by what their traits say of them
abbrev pub devices_of : {F K : Type 0} → FolderGhosts F → SinkGhosts K → F → K → Devices
devices_of told noted folder sink = states (told.content folder) (told.faults folder) (noted.bytes sink) (noted.faults sink)

-- what the devices hold
pub record Held : Type 0 where
  pub content : Option Files
  pub bytes : Option (List ℕ)

-- of these devices
abbrev pub held_of : Devices → Held
held_of d = record { content = d.folder.content; bytes = d.sink.bytes }

-- when one deed more is done
abbrev pub held_by : Held → Deed → Held
held_by held (Write text) = record { content = held.content; bytes = bytes_after held.bytes text }
held_by held (Store put) = record { content = put_file held.content put.name put.bytes; bytes = held.bytes }

-- when these are done, one after the other
abbrev pub held_after : Held → List Deed → Held
held_after held deeds = fold held_by held deeds
