-- Forms that no source can hold yet, tried on one model: an aggregate, a routine with an argument by
-- reference, and a call of the hub. The meaning has them; the instructions that they want are written
-- here, and the machine that carries them out settles their acts as it settles all others.

use Rattle.std.specs.Prelude.{◌≡◌, ◌++◌, ℕ, ◌+◌, zero, suc, Bool, List, [], ◌∷◌, Option, Some, None, pos, true, false, codes, slice_get, unwrap_or, map, replicate}
use Rattle.mos_text.specs.declared.fault_kind.FaultKind.TheVariants.{Depth}
use Rattle.mos_text.specs.declared.scalar.Scalar.TheVariants.{Int}
use Rattle.job_calls.specs.declared.call.Call.{Call}
use Rattle.job_calls.specs.declared.call.Call.TheVariants as call
use Rattle.job_calls.specs.declared.reply.Reply.TheVariants as reply
use Rattle.bim_code.specs.declared.image.Image.{Image}
use Rattle.bim_code.specs.declared.image.ImageType.TheVariants.{Integer}
use Rattle.bim_code.specs.declared.instruction.Comparison.TheVariants.{NotEqual}
use Rattle.bim_code.specs.declared.instruction.Instruction.{Instruction}
use Rattle.bim_code.specs.declared.instruction.Instruction.TheVariants.{Tick, PushInt, PushBool, LoadGlobal, StoreGlobal, Swap, Add, Compare, Jump, JumpNot, Show, Write, Line, End}
use Rattle.bim_code.specs.Rows.{named_address}
use Rattle.mos_value.specs.Values.{Value, One, Place, Operand, Holds, Points, Walks, members_of}
use Rattle.mos_value.specs.Answers.{sum, compare, not_equal, range}
use Rattle.run_state.specs.Stops.{Outcome, Exited, Failed, Spent, Stopped, Asking, Stuck, Lost}
use Rattle.run_state.specs.State.{World, State}
use Rattle.run_state.specs.Calls.{Once, Answer, Replied, Drained}
use Rattle.run_state.specs.HubFunctions.{HubFunction, isqueueempty, Calling, Makes, Refuses, Unfit, call_of, HubResult, HasValue, NoValue, NoReply, result_of_reply}
use Rattle.run_state.specs.Places.{load}
use Rattle.bim_machine.specs.Machine.{Work, Here, Machine, At, Halted, Fails, Sticks, Act, On, Jumps, Stops, Puts, Asks, Enters, Leaves, push, settle}
use Rattle.bim_machine.specs.Instructions.{on_some, on_value, with_stack, values_off, operate, global, act}
use Rattle.bim_machine.specs.Courses.{start, outcome_at}
use Rattle.mos_meaning.specs.Syntax.{Own, Model, number, variable, index, apply, range_of, sum_over, ask_hub, Arguments, no_argument, by_value, by_place, nothing_shown, shown_then, no_statement, CoreStatement, statement_then, assign, change, write, perform, tell_hub, invoke, Formal, Body, Program}
use Rattle.mos_meaning.specs.Meaning.{meaning_of}

-- The model.

-- sum(i in 1..3 | i<>2) i
abbrev pub one_and_three : Arguments
one_and_three =
    by_value (sum_over (codes "i") (range_of (number (pos 1)) (number (pos 3)))
    (apply (compare not_equal) (index (codes "i")) (number (pos 2))) (index (codes "i"))) no_argument

-- a formal of type integer
abbrev pub whole : (shared : Bool) → Formal
whole shared = record { shared = shared; default = One (Int (pos 0)) }

-- procedure addto(r, n): y:=n, r+=y; r is shared with the caller
abbrev pub addto : Body
addto = record {
  own = codes "r" ∷ codes "n" ∷ codes "y" ∷ [];
  formals = whole true ∷ whole false ∷ [];
  defaults = One (Int (pos 0)) ∷ [];
  result = None;
  block = statement_then (assign 3 Own (codes "y") (variable Own (codes "n"))) (statement_then (change 4 sum Own (codes "r") (variable Own (codes "y"))) no_statement);
}

-- x:=1, addto(x, sum(i in 1..3 | i<>2) i), writeln(x, isqueueempty)
abbrev pub example : Program
example = record {
  names = codes "x" ∷ [];
  declared = 1;
  defaults = One (Int (pos 0)) ∷ [];
  params = [];
  bodies = addto ∷ [];
  block =
      statement_then (assign 6 Model (codes "x") (number (pos 1)))
      (statement_then (perform 7 0 (by_place Model (codes "x") one_and_three))
      (statement_then (write 8 true (shown_then (variable Model (codes "x")) (shown_then (ask_hub isqueueempty no_argument) nothing_shown))) no_statement));
}

-- a function that calls itself for good: function endless: endless:=endless
abbrev pub endless_body : Body
endless_body = record {
  own = codes "returned" ∷ [];
  formals = [];
  defaults = One (Int (pos 0)) ∷ [];
  result = Some (codes "returned");
  block = statement_then (assign 3 Own (codes "returned") (invoke 0 no_argument)) no_statement;
}

-- x:=endless
abbrev pub too_deep : Program
too_deep = record {
  names = codes "x" ∷ [];
  declared = 1;
  defaults = One (Int (pos 0)) ∷ [];
  params = [];
  bodies = endless_body ∷ [];
  block = statement_then (assign 6 Model (codes "x") (invoke 0 no_argument)) no_statement;
}

-- The instructions.

-- those that stand, and those that these forms want
pub data Wider : Type 0 where
  plain : Instruction → Wider
  load_local : (slot : ℕ) → Wider
  store_local : (slot : ℕ) → Wider
  refer_global : (slot : ℕ) → Wider
  span : Wider  -- two integers to a range
  walk : Wider
  step_to : (address : ℕ) → Wider
  call_routine : (routine : ℕ) → Wider
  return : Wider
  hub : HubFunction → (many : ℕ) → Wider

-- the next member on top of the walk, or past the walk
abbrev pub steps : List Operand → Work → Act
steps (Walks [] ∷ below) work = Jumps (with_stack below work)
steps (Walks (x ∷ xs) ∷ below) work = On (with_stack (Holds (One x) ∷ Walks xs ∷ below) work)
steps _ work = Stops Sticks

-- just the result, if there is one; whether there is to be one is for the machine to say
abbrev pub returns : List Operand → Act
returns [] = Leaves None
returns (Holds value ∷ []) = Leaves (Some value)
returns _ = Stops Sticks

-- what a reply gives goes on top, if it gives a value
abbrev pub gives : HubResult → Work → Act
gives (HasValue value) work = On (push value work)
gives NoValue work = On work
gives NoReply work = Stops Sticks

-- the reply to a call
abbrev pub replies : HubFunction → Call → Work → Answer → Act
replies function call work (Replied r) = gives (result_of_reply function call r) work
replies function call work (Drained bytes) = Stops Sticks

-- the call is asked, or its arguments refused
abbrev pub calls : HubFunction → Calling → Work → Act
calls function (Makes call) work = Asks (Once call) (replies function call work)
calls function (Refuses kind) work = Stops (Fails kind)
calls function Unfit work = Stops Sticks

-- the act of each
abbrev pub wider_act : Image → Wider → List Place → Work → List (List Value) → Act
wider_act image (plain i) slots work store = act image i slots work store
wider_act image (load_local slot) slots work store =
    on_some (slice_get slots slot) (λ place. on_some (load place store) (λ value. On (push value work)))
wider_act image (store_local slot) slots work store =
    on_some (slice_get slots slot) (λ place. on_value work.stack work (λ value below. Puts ((place, value) ∷ []) below))
wider_act image (refer_global slot) slots work store = On (with_stack (Points (global slot) ∷ work.stack) work)
wider_act image span slots work store = operate range 2 work
wider_act image walk slots work store =
    on_value work.stack work (λ value below. on_some (members_of value) (λ xs. On (with_stack (Walks xs ∷ below.stack) below)))
wider_act image (step_to address) slots work store = steps work.stack work
wider_act image (call_routine routine) slots work store = Enters routine work
wider_act image return slots work store = returns work.stack
wider_act image (hub function many) slots work store =
    on_some (values_off many work.stack []) (λ (off : List Value × List Operand). calls function (call_of function off.0) (with_stack off.1 work))

-- the address that one names; here the addresses are the places in the code
abbrev pub wider_named : Wider → Option ℕ
wider_named (plain i) = named_address i
wider_named (step_to address) = Some address
wider_named _ = None

-- the instruction that was found is carried out
abbrev pub wider_decoded : Image → World → Option Wider → ℕ → Work → Here → State → Machine
wider_decoded image w None address work here s = Halted Stuck address s
wider_decoded image w (Some i) address work here s =
    settle image w (wider_act image i here.slots work s.memory.store)
    (record { at = address; next = address + 1; named = unwrap_or (wider_named i) (address + 1) }) here s

-- at most so many steps
abbrev pub wider_run : Image → List Wider → World → ℕ → Machine → Machine
wider_run image code w zero m = m
wider_run image code w (suc n) (Halted stop address s) = Halted stop address s
wider_run image code w (suc n) (At address work here s) = wider_run image code w n (wider_decoded image w (slice_get code address) address work here s)

-- The code.

-- slot 0 is x, slot 1 the index
abbrev pub main_code : List Wider
main_code =
    plain Tick ∷ plain (PushInt (pos 1)) ∷ plain (StoreGlobal 0)
    ∷ plain Tick ∷ refer_global 0
    ∷ plain (PushInt (pos 0)) ∷ plain (PushInt (pos 1)) ∷ plain (PushInt (pos 3)) ∷ span ∷ walk ∷ plain (Jump 21)
    ∷ plain Tick ∷ plain (StoreGlobal 1) ∷ plain Swap ∷ plain (LoadGlobal 1) ∷ plain (PushInt (pos 2)) ∷ plain (Compare NotEqual) ∷ plain (JumpNot 20)
    ∷ plain (LoadGlobal 1) ∷ plain Add ∷ plain Swap ∷ step_to 23 ∷ plain (Jump 11)
    ∷ call_routine 0
    ∷ plain Tick ∷ plain (LoadGlobal 0) ∷ plain Show ∷ plain Write ∷ hub isqueueempty 0 ∷ plain Show ∷ plain Write ∷ plain (PushBool 1) ∷ plain Line
    ∷ plain (PushInt (pos 0)) ∷ plain End ∷ []

-- slot 0 is r, slot 1 is n, slot 2 is y
abbrev pub addto_code : List Wider
addto_code =
    plain Tick ∷ load_local 1 ∷ store_local 2
    ∷ plain Tick ∷ load_local 2 ∷ load_local 0 ∷ plain Swap ∷ plain Add ∷ store_local 0
    ∷ return ∷ []

-- the main part, then the routine
abbrev pub example_code : List Wider
example_code = main_code ++ addto_code

-- its tables
abbrev pub example_image : Image
example_image = record {
  constants = [];
  types = Integer ∷ [];
  params = [];
  globals = 0 ∷ 0 ∷ [];
  routines =
      record {
        address = 35;
        arguments = 2;
        slots = record { typ = 0; by_reference = true } ∷ record { typ = 0; by_reference = false } ∷ record { typ = 0; by_reference = false } ∷ [];
        result = None;
      } ∷ [];
  points = [];
  code = [];
}

-- what the machine is told of
abbrev pub example_course : World → Outcome
example_course w = outcome_at (wider_run example_image example_code w 200 (start (One (Int (pos 0)) ∷ One (Int (pos 0)) ∷ [])))

-- Both sides.

-- what the model means
abbrev pub example_means : World → Outcome
example_means w = meaning_of example [] w.replies w.budget

-- with its reply it comes to its end, with another it is stopped, without one it asks, and with four ticks it is spent
abbrev pub ExampleMeans : Type 0
ExampleMeans =
    map example_means
    (record { replies = reply.Flag true ∷ []; budget = 100 }
    ∷ record { replies = reply.Halt ∷ []; budget = 9 }
    ∷ record { replies = []; budget = 9 }
    ∷ record { replies = []; budget = 4 }
    ∷ [])
    ≡ record { output = codes "5true\n"; calls = call.IsEmpty ∷ []; ticks = 9; stop = Exited (pos 0) }
    ∷ record { output = []; calls = call.IsEmpty ∷ []; ticks = 9; stop = Stopped }
    ∷ record { output = []; calls = []; ticks = 9; stop = Asking call.IsEmpty }
    ∷ record { output = []; calls = []; ticks = 4; stop = Spent }
    ∷ []

-- the machine does the same, in each of these worlds
abbrev pub ExampleAgrees : Type 0
ExampleAgrees =
    (example_course (record { replies = reply.Flag true ∷ []; budget = 100 }) ≡ example_means (record { replies = reply.Flag true ∷ []; budget = 100 }))
    × (example_course (record { replies = reply.Halt ∷ []; budget = 9 }) ≡ example_means (record { replies = reply.Halt ∷ []; budget = 9 }))
    × (example_course (record { replies = []; budget = 9 }) ≡ example_means (record { replies = []; budget = 9 }))
    × (example_course (record { replies = []; budget = 4 }) ≡ example_means (record { replies = []; budget = 4 }))

-- a thousand calls stand inside one another, each with its tick and that of its statement, and the next one is too deep
abbrev pub TooDeepMeans : Type 0
TooDeepMeans = meaning_of too_deep [] [] 10000 ≡ record { output = []; calls = []; ticks = 2002; stop = Failed Depth }

-- its code, and that of its routine
abbrev pub too_deep_code : List Wider
too_deep_code =
    plain Tick ∷ call_routine 0 ∷ plain (StoreGlobal 0) ∷ plain (PushInt (pos 0)) ∷ plain End
    ∷ plain Tick ∷ call_routine 0 ∷ store_local 0 ∷ load_local 0 ∷ return ∷ []

-- the tables of the other model
abbrev pub too_deep_image : Image
too_deep_image = record example_image {
  globals = 0 ∷ [];
  routines = record { address = 5; arguments = 0; slots = record { typ = 0; by_reference = false } ∷ []; result = Some 0 } ∷ [];
}

-- the machine does the same
abbrev pub TooDeepAgrees : Type 0
TooDeepAgrees =
    outcome_at (wider_run too_deep_image too_deep_code (record { replies = []; budget = 10000 }) 2100 (start (One (Int (pos 0)) ∷ [])))
    ≡ record { output = []; calls = []; ticks = 2002; stop = Failed Depth }

-- a function that leaves without a value
abbrev pub early_code : List Wider
early_code = call_routine 0 ∷ plain End ∷ plain End ∷ plain End ∷ plain End ∷ return ∷ []

-- it is stuck
abbrev pub EarlyIsStuck : Type 0
EarlyIsStuck =
    outcome_at (wider_run too_deep_image early_code (record { replies = []; budget = 10 }) 10 (start (One (Int (pos 0)) ∷ [])))
    ≡ record { output = []; calls = []; ticks = 1; stop = Stuck }

-- What no accepted model holds.

-- procedure nothing
abbrev pub idle_body : Body
idle_body = record { own = []; formals = []; defaults = []; result = None; block = no_statement }

-- function nought
abbrev pub nought_body : Body
nought_body = record endless_body { block = no_statement }

-- one statement over a variable x and three routines: addto, a procedure and a function
abbrev pub only : CoreStatement → Program
only effect = record example { bodies = addto ∷ idle_body ∷ nought_body ∷ []; block = statement_then effect no_statement }

-- a procedure in the place of a function and a function in that of a procedure are lost, when the routine has
-- ended; so are those of the hub, when they are answered
abbrev pub OtherKindsAreLost : Type 0
OtherKindsAreLost =
    map (λ (effect : CoreStatement). meaning_of (only effect) [] (reply.Flag true ∷ []) 9)
    (assign 6 Model (codes "x") (invoke 1 no_argument)
    ∷ perform 6 2 no_argument
    ∷ tell_hub 6 isqueueempty no_argument
    ∷ [])
    ≡ record { output = []; calls = []; ticks = 2; stop = Lost }
    ∷ record { output = []; calls = []; ticks = 2; stop = Lost }
    ∷ record { output = []; calls = call.IsEmpty ∷ []; ticks = 1; stop = Lost }
    ∷ []

-- a value for a formal that is shared, a variable for one that is not, and too few arguments are lost
abbrev pub OtherArgumentsAreLost : Type 0
OtherArgumentsAreLost =
    map (λ (all : Arguments). meaning_of (only (perform 6 0 all)) [] [] 9)
    (by_value (number (pos 1)) (by_value (number (pos 2)) no_argument)
    ∷ by_place Model (codes "x") (by_place Model (codes "x") no_argument)
    ∷ by_place Model (codes "x") no_argument
    ∷ [])
    ≡ replicate 3 (record { output = []; calls = []; ticks = 2; stop = Lost })
