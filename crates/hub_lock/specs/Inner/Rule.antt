-- As the code goes about it: the lock's rule, which is what holds between any two atomic steps, of the three words, of the slot and
-- of the views of all seats.
-- The words are `ticket`, `serving` and `count`, all modulo 2^64. The slot is out with the seat that has the turn, and else at home.
use Rattle.std.specs.Prelude.{◌≡◌, ◌≢◌, ℕ, ◌+◌, ◌%◌, ◌^◌, ◌<◌, ◌≤◌, ◌⊎◌, Bool, true, false, List, [], ◌∷◌, length, All, Option, Some}
use Rattle.std.specs.List.{sum_by}
use mathlib.Core.Option as maybe
use lib.ListN.{get_elem?}
use Rattle.atomic_table.specs.Table.{State}
use Rattle.hub_lock.specs.declared.rule.Stage.{Stage}
use Rattle.hub_lock.specs.declared.rule.Stage.TheVariants.{Idle, Waits, Holds, Spent}
use Rattle.hub_lock.specs.declared.rule.Part.{Part}
use Rattle.hub_lock.specs.declared.rule.View.{View}
use Rattle.hub_lock.specs.LaneEntries.{entries_of, StartsWith, HasNoneFrom}
use Rattle.hub_lock.specs.Marks.{times, IsOrder, IsMarkOf}

-- a spent seat was joined into lane 0's
abbrev pub is_alive : Stage → Bool
is_alive Idle = true
is_alive (Waits t) = true
is_alive (Holds t) = true
is_alive Spent = false

-- the ticket that is out with a seat
abbrev pub ticket_at : Stage → maybe.Option ℕ
ticket_at Idle = maybe.none
ticket_at (Waits t) = maybe.some t
ticket_at (Holds t) = maybe.some t
ticket_at Spent = maybe.none

-- how many tickets are out with a seat: none or one
abbrev pub tickets_out : Stage → ℕ
tickets_out Idle = 0
tickets_out (Waits t) = 1
tickets_out (Holds t) = 1
tickets_out Spent = 0

-- how many turns a seat has at the moment: none or one
abbrev pub turns_held : Stage → ℕ
turns_held Idle = 0
turns_held (Waits t) = 0
turns_held (Holds t) = 1
turns_held Spent = 0

module _ {E : Type 0} where
  -- how many tickets are out with the seat of a view
  abbrev pub tickets_out_of : View E → ℕ
  tickets_out_of v = tickets_out v.stage

  -- how many turns the seat of a view has
  abbrev pub turns_held_of : View E → ℕ
  turns_held_of v = turns_held v.stage

  -- how many turns there were of a seat, and of those that were joined into it
  abbrev pub turns_of : View E → ℕ
  turns_of v = length v.marks + sum_by (λ (p : Part E). length p.marks) v.joined

  -- how often a ticket stands among its marks and theirs
  abbrev pub times_of : ℕ → View E → ℕ
  times_of ticket_at v = times ticket_at v.marks + sum_by (λ (p : Part E). times ticket_at p.marks) v.joined

  -- its marks and theirs are of one of so many turns, and found what the order says
  abbrev pub HasMarks : (ℕ → ℕ) → ℕ → View E → Type 0
  HasMarks at total v = All (IsMarkOf at total) v.marks × All (λ (p : Part E). All (IsMarkOf at total) p.marks) v.joined

  -- Of one seat: its ticket lies from the one served up to below the next, and with the turn it is the one served, and the seat has seen the journal
  abbrev pub Tickets : ℕ → ℕ → List E → List E → Stage → Type 0
  Tickets drawn served log seen Idle = Unit {0}
  Tickets drawn served log seen (Waits t) = (served ≤ t) × (t < drawn)
  Tickets drawn served log seen (Holds t) = (t ≡ served) × (t < drawn) × (seen ≡ log)
  Tickets drawn served log seen Spent = Unit {0}

  -- what the seats of lanes 1, 2 and so on had seen when they were joined: a beginning of the journal, with all of the lane's entries
  abbrev pub Joined : (E → ℕ) → List E → List (Part E) → Type 0
  Joined lane_of log joined = (i : ℕ) (p : Part E) → get_elem? joined i ≡ maybe.some p
      → StartsWith log p.seen × (entries_of lane_of (i + 1) log ≡ entries_of lane_of (i + 1) p.seen)

  -- of two seats: their tickets and their lanes differ, and neither has the lane of one that was joined
  pub record Apart (v w : View E) : Type 0 where
    pub tickets : (t : ℕ) → ticket_at v.stage ≡ maybe.some t → ticket_at w.stage ≡ maybe.some t → ⊥
    pub lanes : is_alive v.stage ≡ true → is_alive w.stage ≡ true → v.lane ≢ w.lane
    pub joined : is_alive v.stage ≡ true → is_alive w.stage ≡ true → v.lane ≡ 0 → length v.joined < w.lane

  -- of a seat that is not spent
  pub record Lives (lane_of : E → ℕ) (made : ℕ) (log : List E) (v : View E) : Type 0 where
    pub begins : StartsWith log v.seen
    pub own : entries_of lane_of v.lane log ≡ entries_of lane_of v.lane v.seen
    pub there : v.lane < made
    pub count : v.lane ≡ 0 → v.made ≡ made
    pub parts : v.lane ≡ 0 → Joined lane_of log v.joined
    pub few : v.lane ≡ 0 → length v.joined < made

  -- of any seat: its ticket, and what it has seen where it is not spent
  pub record SeatKeeps (lane_of : E → ℕ) (drawn served made : ℕ) (log : List E) (v : View E) : Type 0 where
    pub tickets : Tickets drawn served log v.seen v.stage
    pub lives : is_alive v.stage ≡ true → Lives lane_of made log v

  -- the seat has seen the whole journal, or one that was joined into it had
  abbrev pub Knows : List E → View E → Type 0
  Knows log v = (v.seen ≡ log)
      ⊎ ((v.lane ≡ 0) × ((i : ℕ) × (p : Part E) × (get_elem? v.joined i ≡ maybe.some p) × (p.seen ≡ log)))

  -- the journal is the longest of the lists that were seen
  abbrev pub IsLongest : List E → List (View E) → Type 0
  IsLongest log views = (j : ℕ) × (v : View E) × (get_elem? views j ≡ maybe.some v) × Knows log v

  -- The `total` turns so far stand in one order, which leads to `count` entries. Each has one mark among all views, and a spent seat has none
  pub record HasTurns (total count : ℕ) (views : List (View E)) : Type 0 where
    pub at : ℕ → ℕ
    pub order : IsOrder at
    pub leads : (turn : ℕ) → total ≤ turn → at turn ≡ count
    pub counts : sum_by turns_of views ≡ total
    pub once : (turn : ℕ) → turn < total → sum_by (times_of turn) views ≡ 1
    pub free : (turn : ℕ) → total ≤ turn → sum_by (times_of turn) views ≡ 0
    pub marks : (j : ℕ) (v : View E) → get_elem? views j ≡ maybe.some v → HasMarks at total v
    pub gone : (j : ℕ) (v : View E) → get_elem? views j ≡ maybe.some v → is_alive v.stage ≡ false
        → (v.marks ≡ []) × (v.joined ≡ [])

module _ {S E : Type 0} where
  -- the slot is at home with a value that stands for the journal, and nobody has the turn; or one seat has both
  abbrev pub Home : (S → List E) → List (maybe.Option (Option S)) → ℕ → List E → Type 0
  Home list homes holders log =
      ((holders ≡ 0) × ((story : S) × (homes ≡ maybe.some (Some story) ∷ []) × (list story ≡ log)))
      ⊎ ((holders ≡ 1) × (homes ≡ maybe.none ∷ []))

-- The rule at one moment: `log` is the journal, `drawn` and `served` count tickets and turns from the start, and `made` counts seats
pub record LockRule {S E : Type 0} (list : S → List E) (lane_of : E → ℕ) (sound : List E → Type 0) (log : List E)
    (s : State (Option S) (View E)) : Type 0 where
  pub drawn : ℕ
  pub served : ℕ
  pub made : ℕ
  pub words : s.words ≡ drawn % 2 ^ 64 ∷ served % 2 ^ 64 ∷ length log ∷ []
  pub all : length s.views ≡ made
  pub few : made ≤ 64
  pub sounds : sound log
  pub longest : IsLongest log s.views
  pub outs : served + sum_by tickets_out_of s.views ≡ drawn
  pub turns : HasTurns (served + sum_by turns_held_of s.views) (length log) s.views
  pub fits : (j : ℕ) (v : View E) → get_elem? s.views j ≡ maybe.some v → SeatKeeps lane_of drawn served made log v
  pub apart : (i j : ℕ) (v w : View E) → i ≢ j → get_elem? s.views i ≡ maybe.some v
      → get_elem? s.views j ≡ maybe.some w → Apart v w
  pub unmade : HasNoneFrom lane_of made log
  pub home : Home list s.homes (sum_by turns_held_of s.views) log

-- the rule holds, with some journal
abbrev pub HasJournal : {S E : Type 0} → (S → List E) → (E → ℕ) → (List E → Type 0) → State (Option S) (View E) → Type 0
HasJournal {S} {E} list lane_of sound s = (log : List E) × LockRule list lane_of sound log s

-- lane 0's seat at the start
abbrev pub first_view : {E : Type 0} → List E → View E
first_view log = record { lane = 0; seen = log; marks = []; stage = Idle; made = 1; joined = [] }
