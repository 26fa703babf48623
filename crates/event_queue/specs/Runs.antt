-- Runs as an index of events keeps them, run k at place k.

use Rattle.std.specs.Prelude.{◌≡◌, ◌≤◌, ◌<◌, ◌+◌, ◌^◌, ℕ, Bool, false, not, ◌&&◌, List, [], Option, Some, None, length, count_by, slice_get, option_and_then}
use Rattle.std.specs.Option.{option_map_or}
use Rattle.job_calls.specs.Entries.{is_run}
use Rattle.event_queue.specs.declared.run.Run.{Run}

-- the run that started run k
abbrev pub parent_at : List Run → ℕ → Option ℕ
parent_at runs k = option_and_then (λ (run : Run). run.parent) (slice_get runs k)

-- run k has ended
abbrev pub ended_at : List Run → ℕ → Bool
ended_at runs k = option_map_or (λ (run : Run). run.ended) (slice_get runs k) false

-- the places of the events that run k has not taken
abbrev pub places_at : List Run → ℕ → List ℕ
places_at runs k = option_map_or (λ (run : Run). run.places.items) (slice_get runs k) []

-- nothing has come to the run, and it has started none
pub record IsIdle (run : Run) : Type 0 where
  pub parent : run.parent ≡ None
  pub ended : run.ended ≡ false
  pub children : run.children ≡ 0
  pub places : run.places.items ≡ []
  pub capacity : run.places.capacity ≡ 0

-- the queue has room for one event beside the ends of children
abbrev pub HasRoom : Run → Type 0
HasRoom run = length run.places.items + run.children < run.places.capacity

-- there is a run k, and it has room
abbrev pub RoomAt : List Run → ℕ → Type 0
RoomAt runs k = (run : Run) × (slice_get runs k ≡ Some run) × HasRoom run

-- the run goes on, and p is told of its end
abbrev pub will_tell : ℕ → Run → Bool
will_tell p run = not run.ended && is_run p run.parent

-- run p has counted its children that go on, and its queue has a place for the end of each
pub record KeepsRoom (runs : List Run) (p : ℕ) (run : Run) : Type 0 where
  pub children : count_by (will_tell p) runs ≤ run.children
  pub room : length run.places.items + run.children ≤ run.places.capacity
  pub few : run.places.capacity < 2 ^ 63
  pub parent : (q : ℕ) → run.parent ≡ Some q → q < length runs

-- each run does
abbrev pub KeepRooms : List Run → Type 0
KeepRooms runs = (p : ℕ) (run : Run) → slice_get runs p ≡ Some run → KeepsRoom runs p run
