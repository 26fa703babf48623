-- What the calls of a relay mean: no lane comes twice in a row, and each call says how often its lane came.
use Rattle.std.specs.Prelude.{◌≡◌, ℕ, ◌-◌, ◌^◌, List, length, Option, Some, slice_get}
use Rattle.hub_lock.specs.LaneEntries.{entries_of}
use Rattle.hub_lock.specs.Seats.{SeatState, first_entry}
use Rattle.tests_threads.specs.declared.early.Early.{Early}
use Rattle.tests_threads.specs.declared.early.Early.TheVariants.{NotYet, Full, NoMemory}

-- how often a lane came
abbrev pub times : ℕ → List ℕ → ℕ
times lane log = length (entries_of (λ e. e) lane log)

-- lane 0 began, and the call's number is how often the lane came
abbrev pub Allows : Option ℕ → List ℕ → ℕ → ℕ → Type 0
Allows first own lane number = (first ≡ Some 0) × (number ≡ length own)

-- the lane comes once more, and hears how often it came before
abbrev pub Answers : List ℕ → ℕ → ℕ → ℕ → ℕ → Type 0
Answers log lane number entry acted = (entry ≡ lane) × (acted ≡ times lane log)

-- it is too early where the lane came last
abbrev pub Refuses : List ℕ → ℕ → ℕ → Early → Type 0
Refuses log lane number (NotYet same) = (same ≡ number) × (slice_get log (length log - 1) ≡ Some lane)
Refuses log lane number Full = length log ≡ 2 ^ 32 - 1
Refuses log lane number NoMemory = Unit {0}

-- the seat has seen that lane 0 began, and that its own lane came so often
abbrev pub IsReady : SeatState ℕ → ℕ → Type 0
IsReady seat number = (first_entry seat ≡ Some 0) × (number ≡ times seat.lane seat.seen)
