-- As the code goes about it: what the parts of a call make of a seat of the table.
use Rattle.std.specs.Prelude.{◌≡◌, ℕ, ◌^◌, ◌<◌, List, [], ◌∷◌, ◌++◌, length, Option, None}
use Rattle.atomic_table.specs.declared.shared.Seat.{Seat}
use Rattle.hub_lock.specs.declared.mark.Mark.{Mark}
use Rattle.hub_lock.specs.declared.rule.Stage.TheVariants.{Holds}
use Rattle.hub_lock.specs.declared.rule.View.{View}
use Rattle.hub_lock.specs.LaneEntries.{entries_of, StartsWith, HasNoneFrom}
use Rattle.hub_lock.specs.Marks.{IsOrder, mark}
use Rattle.hub_lock.specs.Inner.Rule.{Joined, HasMarks, turns_of, times_of}
use Rattle.hub_lock.specs.Inner.Steps.{after_look}

-- a seat of the lock's table
abbrev pub Raw : Type 0 → Type 0 → Type 0
Raw S E = Seat (Option S) (View E)

module _ {S E : Type 0} where
  -- it is a seat of the same table, with the same place among the views
  abbrev pub IsSameRaw : Raw S E → Raw S E → Type 0
  IsSameRaw old new = (new.table_id ≡ old.table_id) × (new.id ≡ old.id)

  -- the seat has taken the turn and the value, which stands for the journal, and has seen all of it
  pub record HasTurn (list : S → List E) (lane_of : E → ℕ) (sound : List E → Type 0) (old new : Raw S E) (story : S) : Type 0 where
    pub ticket : ℕ
    pub between : List E
    pub after : new.me ≡ (after_look old.me.0 ticket (old.me.0.seen ++ between), (0, None) ∷ [])
    pub others : entries_of lane_of old.me.0.lane between ≡ []
    pub stands : list story ≡ old.me.0.seen ++ between
    pub sounds : sound (old.me.0.seen ++ between)
    pub unmade : old.me.0.lane ≡ 0 → HasNoneFrom lane_of old.me.0.made (old.me.0.seen ++ between)

  -- the seat has the turn, and the slot, out of which the value was taken
  abbrev pub HasSlot : Raw S E → Option S → Type 0
  HasSlot seat inside = ((ticket : ℕ) × (seat.me.0.stage ≡ Holds ticket)) × (seat.me.1 ≡ (0, inside) ∷ [])

  -- the seat has the turn, whose mark is its last, and has counted no entry in it
  abbrev pub HasMark : Raw S E → Type 0
  HasMark seat = (ticket : ℕ) × (before : List Mark) × (seat.me.0.stage ≡ Holds ticket)
      × (seat.me.0.marks ≡ before ++ mark ticket (length seat.me.0.seen) ∷ [])

  -- the story has one entry more than the seat has seen, of its own lane
  pub record HasEntry (list : S → List E) (lane_of : E → ℕ) (sound : List E → Type 0) (seat : Raw S E) (story : S) : Type 0 where
    pub entry : E
    pub longer : list story ≡ seat.me.0.seen ++ entry ∷ []
    pub own : lane_of entry ≡ seat.me.0.lane
    pub sounds : sound (list story)
    pub small : length (list story) < 2 ^ 32

-- the journal at the end, of which lane 0's seat knows this, when all other seats are joined into it
pub record IsWhole {E : Type 0} (lane_of : E → ℕ) (sound : List E → Type 0) (v : View E) (log : List E) : Type 0 where
  pub begins : StartsWith log v.seen
  pub own : entries_of lane_of v.lane log ≡ entries_of lane_of v.lane v.seen
  pub parts : Joined lane_of log v.joined
  pub unmade : HasNoneFrom lane_of v.made log
  pub sounds : sound log
  pub at : ℕ → ℕ
  pub order : IsOrder at
  pub marks : HasMarks at (turns_of v) v
  pub once : (turn : ℕ) → turn < turns_of v → times_of turn v ≡ 1
  pub leads : at (turns_of v) ≡ length log
