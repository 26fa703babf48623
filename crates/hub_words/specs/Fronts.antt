-- What look-ups give, as the definitions have it.
use Rattle.std.specs.Prelude.{◌≡◌, ℕ, Bool, ◌&&◌, List, Option, Some, bytes_eq, if◌then◌else◌}
use Rattle.job_calls.specs.declared.entry.Listed.{Listed}
use Rattle.job_calls.specs.Blocks.{WrittenBytes}
use Rattle.job_calls.specs.Events.{Event}
use Rattle.mos_text.specs.FileName.{is_source_name}
use Rattle.job_calls.specs.Files.{is_data}
use Rattle.hub_words.specs.declared.events.Event as found

-- an event: its place, class and value
abbrev pub event_value : found.Event → Event
event_value event = record { place = event.place; class = event.class; value = event.value }

-- these bytes were written, by the entry at this place
abbrev pub IsWritten : Option WrittenBytes → ℕ → List ℕ → Type 0
IsWritten written place bytes = written ≡ Some record { place = place; bytes = bytes }

-- the file has this name and is a source, or else a data file
abbrev pub has_name : Bool → List ℕ → Listed → Bool
has_name source name file =
    bytes_eq file.name name && (if source then is_source_name file.name else is_data file.name)
