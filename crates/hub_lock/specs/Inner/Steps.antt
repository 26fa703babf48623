-- As the code goes about it: the kinds of atomic step, what each makes of the views, and what it tells the seat that steps.
use Rattle.std.specs.Prelude.{◌≡◌, ◌≢◌, ℕ, ◌+◌, ◌%◌, ◌^◌, List, [], ◌∷◌, ◌++◌, length, Option, Some}
use Rattle.atomic_table.specs.Table.{Me, Step, rest}
use Rattle.hub_lock.specs.declared.mark.Mark.{Mark}
use Rattle.hub_lock.specs.declared.rule.Stage.{Stage}
use Rattle.hub_lock.specs.declared.rule.Stage.TheVariants.{Idle, Waits, Holds, Spent}
use Rattle.hub_lock.specs.declared.rule.Part.{Part}
use Rattle.hub_lock.specs.declared.rule.View.{View}
use Rattle.hub_lock.specs.LaneEntries.{entries_of, HasNoneFrom}
use Rattle.hub_lock.specs.Marks.{mark}

module _ {E : Type 0} where
  -- the view at another stage, with another list seen and other marks
  abbrev pub view_at : View E → Stage → List E → List Mark → View E
  view_at v stage seen marks = record { lane = v.lane; seen = seen; marks = marks; stage = stage; made = v.made; joined = v.joined }

  -- draw: the seat has the ticket t
  abbrev pub after_draw : View E → ℕ → View E
  after_draw v t = view_at v (Waits t) v.seen v.marks

  -- look, where it is served: the seat has the turn, has seen the journal, and keeps a mark of the turn
  abbrev pub after_look : View E → ℕ → List E → View E
  after_look v t log = view_at v (Holds t) log (v.marks ++ mark t (length log) ∷ [])

  -- count: the seat has seen one entry more
  abbrev pub after_count : View E → List E → View E
  after_count v log = view_at v v.stage log v.marks

  -- pass: the seat has neither ticket nor turn
  abbrev pub after_pass : View E → View E
  after_pass v = view_at v Idle v.seen v.marks

  -- split: lane 0's seat counts one seat more
  abbrev pub first_after_split : View E → View E
  first_after_split v = record { lane = v.lane; seen = v.seen; marks = v.marks; stage = v.stage; made = v.made + 1; joined = v.joined }

  -- split: the new seat has the next lane, and has seen as much
  abbrev pub new_view : View E → View E
  new_view v = record { lane = v.made; seen = v.seen; marks = []; stage = Idle; made = 0; joined = [] }

  -- what is kept of a seat that is joined into lane 0's
  abbrev pub part_of : View E → Part E
  part_of v = record { seen = v.seen; marks = v.marks }

  -- join: lane 0's seat keeps what the other had seen, and its marks
  abbrev pub after_join : View E → View E → View E
  after_join v w = record { lane = v.lane; seen = v.seen; marks = v.marks; stage = v.stage; made = v.made; joined = v.joined ++ part_of w ∷ [] }

  -- join: what is left of the other
  abbrev pub spent_view : View E
  spent_view = record { lane = 0; seen = []; marks = []; stage = Spent; made = 0; joined = [] }

module _ {S E : Type 0} where
  -- draw tells: the number found is the seat's ticket
  abbrev pub DrawTells : Step (Option S) → Me (Option S) (View E) → ℕ → Me (Option S) (View E) → Type 0
  DrawTells st m r n = (t : ℕ) × (r ≡ t % 2 ^ 64) × (n ≡ (after_draw m.0 t, m.1))

  -- The turn came: the slot is out with the seat, the value stands for all that the seat has now seen, and that is the journal
  pub record Came (list : S → List E) (lane_of : E → ℕ) (sound : List E → Type 0) (t : ℕ) (m n : Me (Option S) (View E)) : Type 0 where
    pub story : S
    pub between : List E
    pub after : n ≡ (after_look m.0 t (m.0.seen ++ between), (0, Some story) ∷ m.1)
    pub others : entries_of lane_of m.0.lane between ≡ []
    pub stands : list story ≡ m.0.seen ++ between
    pub sounds : sound (m.0.seen ++ between)
    pub unmade : m.0.lane ≡ 0 → HasNoneFrom lane_of m.0.made (m.0.seen ++ between)

  -- look tells: where the number found is the ticket the turn came, and else nothing changed
  abbrev pub LookTells : (S → List E) → (E → ℕ) → (List E → Type 0) → Step (Option S) → Me (Option S) (View E) → ℕ
      → Me (Option S) (View E) → Type 0
  LookTells list lane_of sound st m r n = (t : ℕ) → m.0.stage ≡ Waits t
      → (r ≡ t % 2 ^ 64 → Came list lane_of sound t m n) × (r ≢ t % 2 ^ 64 → n ≡ m)

  -- count tells: the seat has seen the list that the value in its slot stands for, and that is the journal
  abbrev pub CountTells : (S → List E) → Step (Option S) → Me (Option S) (View E) → ℕ → Me (Option S) (View E) → Type 0
  CountTells list st m r n = (story : S) → m.1 ≡ (0, Some story) ∷ [] → n ≡ (after_count m.0 (list story), m.1)

  -- pass tells: the turn is over, and the slot is home
  abbrev pub PassTells : Step (Option S) → Me (Option S) (View E) → ℕ → Me (Option S) (View E) → Type 0
  PassTells st m r n = n ≡ (after_pass m.0, rest m.1)
