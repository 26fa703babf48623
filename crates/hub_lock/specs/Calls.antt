-- What a call leaves, and what the end of a lock gives.
use Rattle.std.specs.Prelude.{◌≡◌, ℕ, ◌+◌, ◌<◌, List, [], ◌∷◌, ◌++◌, length, All, sum_by, slice_get, Some}
use Rattle.hub_lock.specs.declared.story.Story.{Ghosts}
use Rattle.hub_lock.specs.LaneEntries.{entries_of, StartsWith}
use Rattle.hub_lock.specs.Marks.{times, FoundLast, IsOrder, IsMarkOf}
use Rattle.hub_lock.specs.Seats.{SeatState, turns, first_entry, own_list}

-- a story has the calls C, their answers A and refusals H, and the entries E
module _ {S C A H E : Type 0} where
  -- the call may be made: its story allows it, of the first entry and of the lane's own entries
  abbrev pub IsAllowed : Ghosts S C A H E → SeatState E → C → Type 0
  IsAllowed story seat call = story.allowed (first_entry seat) (own_list story seat) seat.lane call

  -- The call was answered: the lane has seen more of other lanes, then its own new entry. Its last turn found all before that entry
  pub record HasActed (story : Ghosts S C A H E) (old new : SeatState E) (call : C) (acted : A)
      : Type 0 where
    pub between : List E
    pub entry : E
    pub goes_on : new.seen ≡ (old.seen ++ between) ++ entry ∷ []
    pub others : entries_of story.lane_of old.lane between ≡ []
    pub own : story.lane_of entry ≡ old.lane
    pub one_more : own_list story new ≡ own_list story old ++ entry ∷ []
    pub first : first_entry new ≡ first_entry old
    pub answered : story.answers (old.seen ++ between) old.lane call entry acted
    pub sounds : story.sound new.seen
    pub found : FoundLast new.marks (length (old.seen ++ between))

  -- The call was refused: the lane has seen more of other lanes alone. What it has seen is all that its last turn found
  pub record HasHeld (story : Ghosts S C A H E) (old new : SeatState E) (call : C) (count : ℕ) (held : H)
      : Type 0 where
    pub between : List E
    pub goes_on : new.seen ≡ old.seen ++ between
    pub others : entries_of story.lane_of old.lane between ≡ []
    pub none_more : own_list story new ≡ own_list story old
    pub first : first_entry new ≡ first_entry old
    pub counted : count ≡ length new.seen
    pub refused : story.refuses new.seen old.lane call held
    pub sounds : story.sound new.seen
    pub found : FoundLast new.marks (length new.seen)

module _ {E : Type 0} where
  -- the journal begins with what the seat has seen, and has no other entries of its lane
  abbrev pub IsIn : (E → ℕ) → SeatState E → List E → Type 0
  IsIn lane_of seat log = StartsWith log seat.seen × (entries_of lane_of seat.lane log ≡ entries_of lane_of seat.lane seat.seen)

  -- the other seats are those of lanes 1, 2 and so on, in this order
  abbrev pub InOrder : List (SeatState E) → Type 0
  InOrder others = (i : ℕ) (other : SeatState E) → slice_get others i ≡ Some other → other.lane ≡ i + 1

  -- how often a ticket stands among the marks of seats
  abbrev pub times_of : ℕ → List (SeatState E) → ℕ
  times_of ticket seats = sum_by (λ seat. times ticket seat.marks) seats

  -- All turns of all seats stand in one order: each has a ticket of its own, and found as many entries as the order says
  pub record HasOrder (seats : List (SeatState E)) (count : ℕ) : Type 0 where
    pub at : ℕ → ℕ
    pub steps : IsOrder at
    pub marks : All (λ seat. All (IsMarkOf at (sum_by turns seats)) seat.marks) seats
    pub once : (turn : ℕ) → turn < sum_by turns seats → times_of turn seats ≡ 1
    pub whole : at (sum_by turns seats) ≡ count

  -- The journal at the end: each seat has seen a beginning of it with all its lane's entries, no other lane has one, and all turns stand in one order
  pub record IsEnd (lane_of : E → ℕ) (sound : List E → Type 0) (seat : SeatState E) (others : List (SeatState E))
      (log : List E) : Type 0 where
    pub first : IsIn lane_of seat log
    pub rest : All (λ other. IsIn lane_of other log) others
    pub no_more : (lane : ℕ) → length others < lane → entries_of lane_of lane log ≡ []
    pub sounds : sound log
    pub order : HasOrder (seat ∷ others) (length log)
