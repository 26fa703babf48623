-- What a step changes of the runs: of one run, and of what the runs say.

use Rattle.std.specs.Prelude.{◌≡◌, ◌≤◌, ◌<◌, ◌+◌, ◌-◌, ◌^◌, ℕ, Bool, List, [], ◌∷◌, ◌++◌, Option, Some, drop, length, slice_get, slice_set, count_by, if◌then◌else◌}
use Rattle.job_calls.specs.Entries.{is_run}
use Rattle.event_queue.specs.declared.run.Run.{Run}
use Rattle.event_queue.specs.Runs.{parent_at, ended_at, places_at, will_tell}

-- both are one run, and the new queue has no less room
pub record HasSame (old new : Run) : Type 0 where
  pub parent : new.parent ≡ old.parent
  pub ended : new.ended ≡ old.ended
  pub children : new.children ≡ old.children
  pub places : new.places.items ≡ old.places.items
  pub room : old.places.capacity ≤ new.places.capacity
  pub few : new.places.capacity < 2 ^ 63

-- both are one run, and one more event came to its queue
pub record HasOneMore (old new : Run) (place : ℕ) : Type 0 where
  pub parent : new.parent ≡ old.parent
  pub ended : new.ended ≡ old.ended
  pub children : new.children ≡ old.children
  pub places : new.places.items ≡ old.places.items ++ place ∷ []
  pub room : new.places.capacity ≡ old.places.capacity

-- the run counts one more child than goes on
abbrev pub HasSpare : List Run → ℕ → Type 0
HasSpare runs p = (run : Run) → slice_get runs p ≡ Some run → count_by (will_tell p) runs + 1 ≤ run.children

-- one run was changed, and all others stay
pub record IsSetAt (old new : List Run) (k : ℕ) (before after : Run) : Type 0 where
  pub was : slice_get old k ≡ Some before
  pub is : new ≡ slice_set old k after

-- the runs say the same
pub record SayTheSame (old new : List Run) : Type 0 where
  pub parents : (k : ℕ) → parent_at new k ≡ parent_at old k
  pub ended : (k : ℕ) → ended_at new k ≡ ended_at old k
  pub places : (k : ℕ) → places_at new k ≡ places_at old k
  pub covers : length old ≤ length new

-- the next place, where it comes to run k
abbrev pub place_for : ℕ → Option ℕ → ℕ → List ℕ
place_for k taker place = if is_run k taker then place ∷ [] else []

-- the places that are left, where the first one may be taken
abbrev pub taken_if : Bool → List ℕ → List ℕ
taken_if takes places = if takes then drop 1 places else places
