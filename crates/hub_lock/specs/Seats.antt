-- What contracts see of a lock and of its seats.
use Rattle.std.specs.Prelude.{◌≡◌, ℕ, List, length, Option, slice_get}
use Rattle.atomic_table.specs.Seated.{TableId}
use Rattle.hub_lock.specs.declared.mark.Mark.{Mark}
use Rattle.hub_lock.specs.declared.story.Story.{Ghosts}
use Rattle.hub_lock.specs.LaneEntries.{entries_of}

-- which lock it is, and how many seats it may have
pub record KeepState : Type 0 where
  pub lock : TableId
  pub lanes : ℕ

-- the seat's lock and lane, the number of seats made (of lane 0's), what the lane has seen of the journal, and the marks of its turns
pub record SeatState (E : Type 0) : Type 0 where
  pub lock : TableId
  pub lane : ℕ
  pub made : ℕ
  pub seen : List E
  pub marks : List Mark

-- how many seats a lock may have
abbrev pub most_lanes : KeepState → ℕ
most_lanes keep = keep.lanes

module _ {E : Type 0} where
  -- the lane of the seat
  abbrev pub lane : SeatState E → ℕ
  lane seat = seat.lane

  -- of lane 0's seat: how many seats were made
  abbrev pub seats_made : SeatState E → ℕ
  seats_made seat = seat.made

  -- what the lane has seen of the journal
  abbrev pub seen : SeatState E → List E
  seen seat = seat.seen

  -- the first entry that the lane has seen
  abbrev pub first_entry : SeatState E → Option E
  first_entry seat = slice_get seat.seen 0

  -- the marks of the seat's turns
  abbrev pub marks : SeatState E → List Mark
  marks seat = seat.marks

  -- how many turns of the lock the seat took
  abbrev pub turns : SeatState E → ℕ
  turns seat = length seat.marks

  -- it is a seat of this lock
  abbrev pub IsSeatOf : KeepState → SeatState E → Type 0
  IsSeatOf keep seat = seat.lock ≡ keep.lock

  -- a call leaves the seat in its lock and its lane, with as many seats made
  pub record IsSameSeat (old new : SeatState E) : Type 0 where
    pub lock : new.lock ≡ old.lock
    pub lane : new.lane ≡ old.lane
    pub made : new.made ≡ old.made

module _ {S C A H E : Type 0} where
  -- the lane's own entries, all of which it has seen
  abbrev pub own_list : Ghosts S C A H E → SeatState E → List E
  own_list story seat = entries_of story.lane_of seat.lane seat.seen
