-- What is done from a sound state on comes to a sound state, or stops for a reason: one lemma for each way
-- of putting one thing behind another.

use Rattle.std.proofs.Common.{◌≡◌, ◌≤◌, ℕ, ◌+◌, List, [], ◌∷◌, ◌++◌, length, Option, None, Bool, true, false, refl, nat_lt, nat_le, arith}
use Rattle.std.specs.Prelude.{All, if◌then◌else◌}
use Rattle.std.proofs.lemmas.Bool.Decides.{nat_tests}
use Rattle.mos_text.specs.declared.scalar.Scalar.TheVariants.{Int, Bool as Truth, Str, Model as ModelOf, Event}
use Rattle.mos_text.specs.declared.fault_kind.FaultKind.TheVariants.{OutFull}
use Rattle.mos_names.specs.NameLists.{Name}
use Rattle.mos_value.specs.Values.{Value, One, SetOf, ListOf, Range, Fields}
use Rattle.run_state.specs.Stops.{Stop, Exited, Failed, Spent, Stopped, Asking, Stuck, Lost}
use Rattle.run_state.specs.State.{World, State, Evaluation, Yields, StopsWith, bind, on_line, with_counts, on_drawn, tick_if, write}
use Rattle.mos_meaning.specs.Values.{ticking}

-- a stop that a model without calls can come to
abbrev pub HasReason : Stop → Type 0
HasReason (Exited code) = Unit {0}
HasReason (Failed kind) = Unit {0}
HasReason Spent = Unit {0}
HasReason Stopped = Unit {0}
HasReason (Asking call) = ⊥
HasReason Stuck = ⊥
HasReason Lost = ⊥

-- kinds of values
abbrev pub IsInt : Value → Type 0
IsInt (One (Int n)) = Unit {0}
IsInt (One (Truth b)) = ⊥
IsInt (One (Str t)) = ⊥
IsInt (One (ModelOf n)) = ⊥
IsInt (One (Event a b)) = ⊥
IsInt (SetOf member members) = ⊥
IsInt (ListOf member items) = ⊥
IsInt (Range a b) = ⊥
IsInt (Fields names values) = ⊥

-- each variable has an integer, no fewer ticks were taken than so many, and no call was made
pub record Sound (w : World) (names : List Name) (least : ℕ) (s : State) : Type 0 where
  pub frame : List Value
  pub store : s.memory.store ≡ frame ∷ []
  pub wide : length frame ≡ length names
  pub ints : All IsInt frame
  pub later : least ≤ s.counts.ticks
  pub within : s.counts.ticks ≤ w.budget
  pub silent : s.counts.calls ≡ []

abbrev pub FineIs : World → List Name → ℕ → {A : Type 0} → (A → Type 0) → Evaluation A → Type 0
FineIs w names least P (Yields x s) = Sound w names least s × P x
FineIs w names least P (StopsWith stop line s) = HasReason stop × (s.counts.calls ≡ [])

pub record Fine (w : World) (names : List Name) (least : ℕ) {A : Type 0} (P : A → Type 0) (o : Evaluation A) : Type 0 where
  pub by : FineIs w names least P o

pub gave : {w : World} {names : List Name} {least : ℕ} {A : Type 0} {P : A → Type 0} {x : A} {s : State} → Sound w names least s → P x → Fine w names least P (Yields x s)
gave sound h = record { by = (sound, h) }

pub halts : {w : World} {names : List Name} {inner least : ℕ} {A : Type 0} {P : A → Type 0} {stop : Stop} {line : Option ℕ} {s : State}
    → Sound w names inner s → HasReason stop → Fine w names least P (StopsWith stop line s)
halts sound h = record { by = (h, sound.silent) }

-- a later bound is one
pub sooner : {w : World} {names : List Name} {least : ℕ} {s : State} (earlier : ℕ) → earlier ≤ least → Sound w names least s → Sound w names earlier s
sooner earlier less sound = let later = sound.later in record {
  frame = sound.frame;
  store = sound.store;
  wide = sound.wide;
  ints = sound.ints;
  later = omega (arith, later, less);
  within = sound.within;
  silent = sound.silent;
}

-- that of the state itself
pub renewed : {w : World} {names : List Name} {least : ℕ} {s : State} → Sound w names least s → Sound w names s.counts.ticks s
renewed sound = record {
  frame = sound.frame;
  store = sound.store;
  wide = sound.wide;
  ints = sound.ints;
  later = omega arith;
  within = sound.within;
  silent = sound.silent;
}

pub then_fine : {w : World} {names : List Name} {inner least : ℕ} {A B : Type 0} {P : A → Type 0} {Q : B → Type 0} (o : Evaluation A) (go : A → State → Evaluation B)
    → Fine w names inner P o → ((x : A) (s : State) → Sound w names inner s → P x → Fine w names least Q (go x s)) → Fine w names least Q (bind o go)
then_fine (Yields x s) go f h = h x s f.by.0 f.by.1
then_fine (StopsWith stop line s) go f h = record { by = f.by }

pub on_line_fine : {w : World} {names : List Name} {least : ℕ} {A : Type 0} {P : A → Type 0} (line : ℕ) (o : Evaluation A) → Fine w names least P o → Fine w names least P (on_line line o)
on_line_fine line (Yields x s) f = f
on_line_fine line (StopsWith stop inner s) f = record { by = f.by }

-- a tick makes the bound greater
pub tick_fine : {w : World} {names : List Name} {least inner : ℕ} {A : Type 0} {P : A → Type 0} (s : State) (go : State → Evaluation A) → Sound w names inner s
    → ((s1 : State) → Sound w names (s.counts.ticks + 1) s1 → Fine w names least P (go s1)) → Fine w names least P (ticking w s go)
tick_fine {w = w} {names = names} {least = least} {A = A} {P = P} s go sound h = tested (nat_lt s.counts.ticks w.budget) refl
  where
    tested : (b : Bool) → nat_lt s.counts.ticks w.budget ≡ b → Fine w names least P (bind (on_drawn (tick_if b s.counts) s) (λ done s1. go s1))
    tested true e = h (with_counts (record s.counts { ticks = s.counts.ticks + 1 }) s) (record {
      frame = sound.frame;
      store = sound.store;
      wide = sound.wide;
      ints = sound.ints;
      later = omega arith;
      within = grind (arith, nat_tests, e);
      silent = sound.silent;
    })
    tested false e = record { by = (tt, sound.silent) }

-- what is written leaves the variables
pub write_fine : {w : World} {names : List Name} {least inner : ℕ} {A : Type 0} {P : A → Type 0} (text : List ℕ) (s : State) (go : Unit {0} → State → Evaluation A) → Sound w names inner s
    → ((s1 : State) → Sound w names inner s1 → Fine w names least P (go tt s1)) → Fine w names least P (bind (write text s) go)
write_fine {w = w} {names = names} {least = least} {A = A} {P = P} text s go sound h = tested (nat_le (length s.memory.output + length text) 1048576)
  where
    tested : (b : Bool) → Fine w names least P (bind (if b then Yields tt (record s { memory = record s.memory { output = s.memory.output ++ text } }) else StopsWith (Failed OutFull) None s) go)
    tested true = h (record s { memory = record s.memory { output = s.memory.output ++ text } }) (record {
      frame = sound.frame;
      store = sound.store;
      wide = sound.wide;
      ints = sound.ints;
      later = sound.later;
      within = sound.within;
      silent = sound.silent;
    })
    tested false = record { by = (tt, sound.silent) }
