-- Forms that no source can hold yet, tried on another model: a set that is passed as a fresh value to a
-- routine that changes it, and a procedure of the hub. Meaning and machine do the same.

use Rattle.std.specs.Prelude.{◌≡◌, ◌++◌, ℕ, ◌+◌, List, [], ◌∷◌, None, pos, true, false, codes, map}
use Rattle.mos_text.specs.declared.scalar.Scalar.TheVariants.{Int}
use Rattle.job_calls.specs.declared.call.Call.{Call}
use Rattle.job_calls.specs.declared.call.Call.TheVariants as call
use Rattle.job_calls.specs.declared.reply.Reply.TheVariants as reply
use Rattle.bim_code.specs.declared.image.Image.{Image}
use Rattle.bim_code.specs.declared.image.ImageType.TheVariants.{Integer, Set}
use Rattle.bim_code.specs.declared.instruction.Instruction.TheVariants.{Tick, PushInt, PushBool, LoadGlobal, StoreGlobal, Swap, Add, Jump, JumpNot, Show, Write, Line, End}
use Rattle.mos_value.specs.declared.member.MemberType.TheVariants as member
use Rattle.mos_value.specs.Values.{Value, One, SetOf}
use Rattle.run_state.specs.Stops.{Outcome, Exited, Spent, Asking, Stuck}
use Rattle.run_state.specs.State.{World}
use Rattle.run_state.specs.HubFunctions.{send}
use Rattle.bim_machine.specs.Machine.{Machine}
use Rattle.bim_machine.specs.Courses.{start, outcome_at, machine_globals}
use Rattle.mos_meaning.specs.Syntax.{Own, Model, number, truth, variable, index, Expression, sum_over, Arguments, no_argument, by_value, by_place, by_fresh, nothing_shown, shown_then, CoreStatement, no_statement, statement_then, assign, write, perform, tell_hub, Body, Program}
use Rattle.mos_meaning.specs.Meaning.{meaning_of, globals_of}
use Rattle.mos_meaning.specs.FormsToCome.{Wider, plain, load_local, store_local, refer_global, walk, step_to, call_routine, return, hub, wider_run}

-- The model.

-- writeln(sum(i in e) i)
abbrev pub write_total : (line : ℕ) → Expression → CoreStatement
write_total line e = write line true (shown_then (sum_over (codes "i") e (truth true) (index (codes "i"))) nothing_shown)

-- procedure replace(a): writeln(sum(i in a) i), a:=others, writeln(sum(i in a) i)
abbrev pub replace : Body
replace = record {
  own = codes "a" ∷ [];
  formals = record { shared = true; default = SetOf member.Integer [] } ∷ [];
  defaults = [];
  result = None;
  block =
      statement_then (write_total 3 (variable Own (codes "a")))
      (statement_then (assign 4 Own (codes "a") (variable Model (codes "others")))
      (statement_then (write_total 5 (variable Own (codes "a"))) no_statement));
}

-- {1,2}, {5}, and the empty set of the variable that holds the fresh value
abbrev pub sets : List Value
sets =
    SetOf member.Integer (Int (pos 1) ∷ Int (pos 2) ∷ [])
    ∷ SetOf member.Integer (Int (pos 5) ∷ [])
    ∷ SetOf member.Integer [] ∷ []

-- replace of this argument, send(5,7), writeln(sum(i in some) i)
abbrev pub replacing : Arguments → Program
replacing argument = record {
  names = codes "some" ∷ codes "others" ∷ codes "fresh" ∷ [];
  declared = 2;
  defaults = sets;
  params = [];
  bodies = replace ∷ [];
  block =
      statement_then (perform 7 0 argument)
      (statement_then (tell_hub 8 send (by_value (number (pos 5)) (by_value (number (pos 7)) no_argument)))
      (statement_then (write_total 9 (variable Model (codes "some"))) no_statement));
}

-- the first set as a fresh value
abbrev pub with_copy : Program
with_copy = replacing (by_fresh Model (codes "fresh") (variable Model (codes "some")) no_argument)

-- the first set itself
abbrev pub with_some : Program
with_some = replacing (by_place Model (codes "some") no_argument)

-- The code of the model with a fresh value.

-- the sum over a set, from this address on
abbrev pub total_code : (from : ℕ) (set store_index load_index : Wider) → List Wider
total_code from set store_index load_index =
    plain (PushInt (pos 0)) ∷ set ∷ walk ∷ plain (Jump (from + 12))
    ∷ plain Tick ∷ store_index ∷ plain Swap ∷ plain (PushBool 1) ∷ plain (JumpNot (from + 11))
    ∷ load_index ∷ plain Add ∷ plain Swap ∷ step_to (from + 14) ∷ plain (Jump (from + 4)) ∷ []

-- it is printed
abbrev pub line_code : List Wider
line_code = plain Show ∷ plain Write ∷ plain (PushBool 1) ∷ plain Line ∷ []

-- slots 0, 1 and 2 are the variables, slot 3 the index
abbrev pub copy_main : List Wider
copy_main =
    (plain Tick ∷ plain (LoadGlobal 0) ∷ plain (StoreGlobal 2) ∷ refer_global 2 ∷ call_routine 0
    ∷ plain Tick ∷ plain (PushInt (pos 5)) ∷ plain (PushInt (pos 7)) ∷ hub send 2 ∷ plain Tick ∷ [])
    ++ total_code 10 (plain (LoadGlobal 0)) (plain (StoreGlobal 3)) (plain (LoadGlobal 3))
    ++ line_code
    ++ (plain (PushInt (pos 0)) ∷ plain End ∷ [])

-- slot 0 is a, slot 1 the index
abbrev pub copy_routine : List Wider
copy_routine =
    (plain Tick ∷ [])
    ++ total_code 31 (load_local 0) (store_local 1) (load_local 1)
    ++ line_code
    ++ (plain Tick ∷ plain (LoadGlobal 1) ∷ store_local 0 ∷ plain Tick ∷ [])
    ++ total_code 53 (load_local 0) (store_local 1) (load_local 1)
    ++ line_code
    ++ (return ∷ [])

-- its tables
abbrev pub copy_image : Image
copy_image = record {
  constants = [];
  types = Integer ∷ Set 0 ∷ [];
  params = [];
  globals = 1 ∷ 1 ∷ 1 ∷ 0 ∷ [];
  routines =
      record {
        address = 30;
        arguments = 1;
        slots = record { typ = 1; by_reference = true } ∷ record { typ = 0; by_reference = false } ∷ [];
        result = None;
      } ∷ [];
  points = [];
  code = [];
}

-- where the machine comes to
abbrev pub copy_machine : World → Machine
copy_machine w = wider_run copy_image (copy_main ++ copy_routine) w 200 (start (sets ++ One (Int (pos 0)) ∷ []))

-- what is told of it
abbrev pub copy_course : World → Outcome
copy_course w = outcome_at (copy_machine w)

-- Both sides.

-- the message that it sends
abbrev pub message : Call
message = call.Send None (pos 5) (pos 7)

-- what the model means
abbrev pub copy_means : World → Outcome
copy_means w = meaning_of with_copy [] w.replies w.budget

-- the routine changes the fresh value, and the set stays; the message has no value, lost or not, and is asked
-- where there is no reply; a reply that is none to it is stuck
abbrev pub CopyMeans : Type 0
CopyMeans =
    map copy_means
    (record { replies = reply.Queued 0 ∷ []; budget = 12 }
    ∷ record { replies = reply.Lost ∷ []; budget = 11 }
    ∷ record { replies = []; budget = 100 }
    ∷ record { replies = reply.Flag true ∷ []; budget = 100 }
    ∷ [])
    ≡ record { output = codes "3\n5\n3\n"; calls = message ∷ []; ticks = 12; stop = Exited (pos 0) }
    ∷ record { output = codes "3\n5\n"; calls = message ∷ []; ticks = 11; stop = Spent }
    ∷ record { output = codes "3\n5\n"; calls = []; ticks = 9; stop = Asking message }
    ∷ record { output = codes "3\n5\n"; calls = message ∷ []; ticks = 9; stop = Stuck }
    ∷ []

-- the machine does the same, in each of these worlds
abbrev pub CopyAgrees : Type 0
CopyAgrees =
    (copy_course (record { replies = reply.Queued 0 ∷ []; budget = 12 }) ≡ copy_means (record { replies = reply.Queued 0 ∷ []; budget = 12 }))
    × (copy_course (record { replies = reply.Lost ∷ []; budget = 11 }) ≡ copy_means (record { replies = reply.Lost ∷ []; budget = 11 }))
    × (copy_course (record { replies = []; budget = 100 }) ≡ copy_means (record { replies = []; budget = 100 }))
    × (copy_course (record { replies = reply.Flag true ∷ []; budget = 100 }) ≡ copy_means (record { replies = reply.Flag true ∷ []; budget = 100 }))

-- out of ticks the model tells the variables that it declares, and the machine those behind them too: the fresh
-- value and the index
abbrev pub CopySpends : Type 0
CopySpends =
    (globals_of with_copy [] (reply.Lost ∷ []) 11
    ≡ SetOf member.Integer (Int (pos 1) ∷ Int (pos 2) ∷ []) ∷ SetOf member.Integer (Int (pos 5) ∷ []) ∷ [])
    × (machine_globals (copy_machine (record { replies = reply.Lost ∷ []; budget = 11 }))
    ≡ globals_of with_copy [] (reply.Lost ∷ []) 11 ++ SetOf member.Integer (Int (pos 5) ∷ []) ∷ One (Int (pos 1)) ∷ [])

-- where the set itself is passed, it is changed
abbrev pub SomeMeans : Type 0
SomeMeans =
    meaning_of with_some [] (reply.Queued 0 ∷ []) 100
    ≡ record { output = codes "3\n5\n5\n"; calls = message ∷ []; ticks = 11; stop = Exited (pos 0) }
