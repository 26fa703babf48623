-- The state of a run, the same for the meaning of a model and for the machine, and what a run is given
-- from outside.

use Rattle.std.specs.Prelude.{ℕ, ◌+◌, Bool, true, false, List, [], ◌∷◌, ◌++◌, Option, Some, None, nat_lt, nat_le, length, if◌then◌else◌}
use Rattle.mos_text.specs.declared.fault_kind.FaultKind.TheVariants.{OutFull}
use Rattle.job_calls.specs.declared.call.Call.{Call}
use Rattle.job_calls.specs.declared.reply.Reply.{Reply}
use Rattle.mos_value.specs.Values.{Value}
use Rattle.mos_value.specs.Answers.{Result, Gives, Faults, Sticks}
use Rattle.run_state.specs.Stops.{Stop, Exited, Failed, Spent, Stopped, Asking, Stuck, Lost, Outcome}

-- what a run is given from outside; it never changes
pub record World : Type 0 where
  pub replies : List Reply  -- to its calls, in order
  pub budget : ℕ  -- of ticks

-- the values that are held, frame by frame, the newest frame first, and what was written
pub record Memory : Type 0 where
  pub store : List (List Value)
  pub output : List ℕ

-- what was had of the world so far
pub record Counts : Type 0 where
  pub calls : List Call  -- answered, in order
  pub ticks : ℕ  -- taken

-- the state of a run
pub record State : Type 0 where
  pub memory : Memory
  pub counts : Counts

-- a run that begins with these values in the model's frame
abbrev pub beginning : List Value → State
beginning values = record {
  memory = record { store = values ∷ []; output = [] };
  counts = record { calls = []; ticks = 0 };
}

-- the same with another store, with other counts
abbrev pub with_store : List (List Value) → State → State
with_store store s = record s { memory = record s.memory { store = store } }

-- with other counts
abbrev pub with_counts : Counts → State → State
with_counts counts s = record s { counts = counts }

-- what is told of a run that stopped in this state
abbrev pub outcome_of : Stop → State → Outcome
outcome_of stop s = record {
  output = s.memory.output;
  calls = s.counts.calls;
  ticks = s.counts.ticks;
  stop = stop;
}

-- how a run stopped, and its state then
pub record Final : Type 0 where
  pub stop : Stop
  pub state : State

-- what is told of it
abbrev pub final_outcome : Final → Outcome
final_outcome final = outcome_of final.stop final.state

-- the values in the model's frame, which has none behind it
abbrev pub model_frame : List (List Value) → List Value
model_frame [] = []
model_frame (f ∷ []) = f
model_frame (f ∷ g ∷ fs) = model_frame (g ∷ fs)

-- the values in the model's frame at the moment at which a tick was needed and none was left; behind another
-- stop none are told
abbrev pub globals_at : Stop → State → List Value
globals_at Spent s = model_frame s.memory.store
globals_at (Exited code) s = []
globals_at (Failed kind) s = []
globals_at Stopped s = []
globals_at (Asking call) s = []
globals_at Stuck s = []
globals_at Lost s = []

-- What is done comes to a result, or stops the run.

-- with the state behind it; a stop may have its line in the source
pub data Evaluation (A : Type 0) : Type 0 where
  Yields : (x : A) (s : State) → Evaluation A
  StopsWith : (stop : Stop) (line : Option ℕ) (s : State) → Evaluation A

-- one thing, then what is done with its result
abbrev pub bind : {A B : Type 0} → Evaluation A → (A → State → Evaluation B) → Evaluation B
bind (Yields x s) go = go x s
bind (StopsWith stop line s) go = StopsWith stop line s

-- a stop that has no line yet has this one
abbrev pub line_or : Option ℕ → ℕ → ℕ
line_or None line = line
line_or (Some inner) line = inner

-- what arises in the piece on this line
abbrev pub on_line : {A : Type 0} → ℕ → Evaluation A → Evaluation A
on_line line (Yields x s) = Yields x s
on_line line (StopsWith stop inner s) = StopsWith stop (Some (line_or inner line)) s

-- what is there, or this stop
abbrev pub or_stop : {A : Type 0} → Stop → Option A → State → Evaluation A
or_stop stop None s = StopsWith stop None s
or_stop stop (Some x) s = Yields x s

-- the answer of an operator
abbrev pub evaluation_of : Result → State → Evaluation Value
evaluation_of (Gives value) s = Yields value s
evaluation_of (Faults kind) s = StopsWith (Failed kind) None s
evaluation_of Sticks s = StopsWith Stuck None s

-- What is had of the world.

-- it comes to a result, or stops the run, with the counts behind it
pub data Drawn (A : Type 0) : Type 0 where
  Draws : (x : A) (counts : Counts) → Drawn A
  DrawStops : (stop : Stop) (counts : Counts) → Drawn A

-- what is had of the world, with the state behind it
abbrev pub on_drawn : {A : Type 0} → Drawn A → State → Evaluation A
on_drawn (Draws x counts) s = Yields x (with_counts counts s)
on_drawn (DrawStops stop counts) s = StopsWith stop None (with_counts counts s)

-- a tick, if one is left
abbrev pub tick_if : Bool → Counts → Drawn (Unit {0})
tick_if true counts = Draws tt (record counts { ticks = counts.ticks + 1 })
tick_if false counts = DrawStops Spent counts

-- a tick, where one is left
abbrev pub tick : World → Counts → Drawn (Unit {0})
tick w counts = tick_if (nat_lt counts.ticks w.budget) counts

-- What is written.

-- a text goes to the output, which has at most 1,048,576 bytes, or nothing does
abbrev pub write : List ℕ → State → Evaluation (Unit {0})
write text s =
    if nat_le (length s.memory.output + length text) 1048576
    then Yields tt (record s { memory = record s.memory { output = s.memory.output ++ text } })
    else StopsWith (Failed OutFull) None s

-- a newline, where one is wanted
abbrev pub line_end : Bool → List ℕ
line_end true = 10 ∷ []
line_end false = []
