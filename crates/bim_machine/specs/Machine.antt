-- The abstract machine. An instruction gives an act, which says what is to be done and changes nothing
-- by itself; `settle` does it.

use Rattle.std.specs.Prelude.{ℕ, ℤ, Bool, true, false, List, [], ◌∷◌, ◌++◌, Option, Some, None, map, take, drop, reverse, length, slice_get, is_some, nat_lt, if◌then◌else◌}
use Rattle.mos_text.specs.declared.fault_kind.FaultKind.{FaultKind}
use Rattle.mos_text.specs.declared.fault_kind.FaultKind.TheVariants.{Depth}
use Rattle.bim_code.specs.declared.image.Image.{Image}
use Rattle.bim_code.specs.declared.image.Routine.{Routine}
use Rattle.bim_code.specs.declared.image.Slot.{Slot}
use Rattle.mos_value.specs.Values.{Value, Place, Operand, Holds, Points, Walks}
use Rattle.run_state.specs.Stops.{Stop, Exited, Failed, Stuck}
use Rattle.run_state.specs.State.{World, State, with_store, Evaluation, Yields, StopsWith, on_drawn, tick, write}
use Rattle.run_state.specs.Calls.{Query, Answer, inquire}
use Rattle.run_state.specs.Places.{put, most_calls, Argument, ByValue, ByPlace, by_values, argument_places, store_inside, store_behind}
use Rattle.run_state.specs.Parameters.{and_then}
use Rattle.bim_machine.specs.Starts.{defaults_in}

-- what the part of the code that runs has at hand: its operands, the top first, and the texts that it
-- printed and did not yet write
pub record Work : Type 0 where
  pub stack : List Operand
  pub held : List ℕ

-- a part that waits for the routine that it called, and for a value where that is a function
pub record Caller : Type 0 where
  pub work : Work
  pub slots : List Place
  pub back : ℕ
  pub awaits_value : Bool

-- what stays while one part runs: the places of its slots, the address to which it goes back, and who
-- waits for it, the nearest first
pub record Here : Type 0 where
  pub slots : List Place
  pub back : ℕ
  pub callers : List Caller

-- at an address, or over at the instruction of this address
pub data Machine : Type 0 where
  At : (address : ℕ) (work : Work) (here : Here) (s : State) → Machine
  Halted : (stop : Stop) (address : ℕ) (s : State) → Machine

-- how an instruction can stop the run by itself
pub data OwnStop : Type 0 where
  Exits : (code : ℤ) → OwnStop
  Fails : (kind : FaultKind) → OwnStop
  Sticks : OwnStop  -- it does not find what it wants

-- the stop that a halt is
abbrev pub stop_of : OwnStop → Stop
stop_of (Exits code) = Exited code
stop_of (Fails kind) = Failed kind
stop_of Sticks = Stuck

-- what an instruction asks of the machine
pub data Act : Type 0 where
  On : (work : Work) → Act  -- go on behind it
  Jumps : (work : Work) → Act  -- go on at the address that it names
  Stops : (halt : OwnStop) → Act
  Puts : (values : List (Place × Value)) (work : Work) → Act  -- put the values, then go on
  Prints : (text : List ℕ) (work : Work) → Act  -- write the text, then go on
  Ticks : Act → Act  -- take a tick first
  Asks : Query → (Answer → Act) → Act  -- ask first
  Enters : (routine : ℕ) (work : Work) → Act  -- take a tick, then call a routine on the operands
  Leaves : (result : Option Value) → Act  -- go back to the caller

-- the addresses of an instruction, of what stands behind it, and of what it names
pub record Site : Type 0 where
  pub at : ℕ
  pub next : ℕ
  pub named : ℕ

-- what comes to a result goes on with it
abbrev pub on_evaluation : {A : Type 0} → ℕ → Evaluation A → (A → State → Machine) → Machine
on_evaluation at (Yields x s) go = go x s
on_evaluation at (StopsWith stop line s) go = Halted stop at s

-- nothing at hand
abbrev pub idle : Work
idle = record { stack = []; held = [] }

-- a value on top
abbrev pub push : Value → Work → Work
push value work = record work { stack = Holds value ∷ work.stack }

-- Values are put.

-- values at places that are there, one after the other
abbrev pub put_all : List (Place × Value) → List (List Value) → Option (List (List Value))
put_all [] store = Some store
put_all (one ∷ more) store = and_then (put one.0 one.1 store) (put_all more)

-- what is put goes on
abbrev pub store_step : Option (List (List Value)) → Work → Site → Here → State → Machine
store_step None work site here s = Halted Stuck site.at s
store_step (Some store) work site here s = At site.next work here (with_store store s)

-- Routines are entered and left.

-- the arguments of these slots, the last first, off the operands
abbrev pub arguments_off : List Slot → List Operand → List Argument → Option (List Argument × List Operand)
arguments_off [] stack sofar = Some (sofar, stack)
arguments_off (slot ∷ slots) [] sofar = None
arguments_off (slot ∷ slots) (Holds value ∷ stack) sofar =
    if slot.by_reference then None else arguments_off slots stack (ByValue value ∷ sofar)
arguments_off (slot ∷ slots) (Points place ∷ stack) sofar =
    if slot.by_reference then arguments_off slots stack (ByPlace place ∷ sofar) else None
arguments_off (slot ∷ slots) (Walks left ∷ stack) sofar = None

-- a routine begins with its arguments and with the defaults of its other slots
abbrev pub begins : Option (List Argument × List Operand) → Option (List Value) → Routine → Work → Site → Here → State → Machine
begins (Some (given, stack)) (Some others) routine work site here s =
    let slots = given ++ by_values others in
    At routine.address idle record {
      slots = argument_places (length s.memory.store) 0 slots;
      back = site.next;
      callers =
          record { work = record work { stack = stack }; slots = here.slots; back = here.back; awaits_value = is_some routine.result }
          ∷ here.callers;
    } (with_store (store_inside slots s.memory.store) s)
begins given others routine work site here s = Halted Stuck site.at s

-- the routine that was found begins
abbrev pub begins_routine : Image → Option Routine → Work → Site → Here → State → Machine
begins_routine image None work site here s = Halted Stuck site.at s
begins_routine image (Some routine) work site here s =
    begins
    (arguments_off (reverse (take routine.arguments routine.slots)) work.stack [])
    (defaults_in image.constants image.types (map (λ (slot : Slot). slot.typ) (drop routine.arguments routine.slots)))
    routine work site here s

-- only so many calls stand inside one another
abbrev pub enters : Bool → Image → ℕ → Work → Site → Here → State → Machine
enters true image number work site here s = begins_routine image (slice_get image.routines number) work site here s
enters false image number work site here s = Halted (Failed Depth) site.at s

-- a function leaves with a value, which goes on top, and a procedure with none
abbrev pub work_behind : (awaits_value : Bool) → Option Value → Work → Option Work
work_behind true (Some value) work = Some (push value work)
work_behind true None work = None
work_behind false (Some value) work = None
work_behind false None work = Some work

-- the nearest caller goes on with this at hand
abbrev pub resumes : Option Work → Caller → List Caller → Site → Here → State → Machine
resumes None caller callers site here s = Halted Stuck site.at s
resumes (Some work) caller callers site here s =
    At here.back work (record { slots = caller.slots; back = caller.back; callers = callers }) (with_store (store_behind s.memory.store) s)

-- a routine is left
abbrev pub leaves : List Caller → Option Value → Site → Here → State → Machine
leaves [] result site here s = Halted Stuck site.at s
leaves (caller ∷ callers) result site here s =
    resumes (work_behind caller.awaits_value result caller.work) caller callers site here s

-- What is to be done is done.

-- the next state of the machine
abbrev pub settle : Image → World → Act → Site → Here → State → Machine
settle image w (On work) site here s = At site.next work here s
settle image w (Jumps work) site here s = At site.named work here s
settle image w (Stops halt) site here s = Halted (stop_of halt) site.at s
settle image w (Puts values work) site here s = store_step (put_all values s.memory.store) work site here s
settle image w (Prints text work) site here s = on_evaluation site.at (write text s) (λ done s1. At site.next work here s1)
settle image w (Ticks act) site here s = on_evaluation site.at (on_drawn (tick w s.counts) s) (λ done s1. settle image w act site here s1)
settle image w (Asks query go) site here s =
    on_evaluation site.at (on_drawn (inquire w query s.counts) s) (λ answer s1. settle image w (go answer) site here s1)
settle image w (Enters number work) site here s =
    on_evaluation site.at (on_drawn (tick w s.counts) s) (λ done s1. enters (nat_lt (length here.callers) most_calls) image number work site here s1)
settle image w (Leaves result) site here s = leaves here.callers result site here s
