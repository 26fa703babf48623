-- The meaning of a model: what it writes, which calls it makes, how many ticks it takes and how it
-- ends, given its parameter text, the replies to its calls and its budget of ticks.

use Rattle.std.specs.Prelude.{ℕ, zero, suc, pos, Bool, true, false, not, ◌&&◌, List, [], ◌∷◌, ◌++◌, Option, Some, None, map, take, length, slice_get, if◌then◌else◌}
use Rattle.mos_text.specs.declared.fault_kind.FaultKind.TheVariants.{Depth}
use Rattle.mos_text.specs.declared.scalar.Scalar.{Scalar}
use Rattle.job_calls.specs.declared.reply.Reply.{Reply}
use Rattle.mos_names.specs.NameLists.{Name, place_of}
use Rattle.mos_value.specs.Values.{Value}
use Rattle.run_state.specs.Stops.{Exited, Failed, Lost, Outcome}
use Rattle.run_state.specs.State.{World, State, beginning, with_store, Final, final_outcome, globals_at, Evaluation, Yields, StopsWith, bind}
use Rattle.run_state.specs.Places.{Argument, ByValue, ByPlace, by_values, argument_places, store_inside, store_behind, most_calls}
use Rattle.run_state.specs.Parameters.{Parameter, given_values, with_values, refused_run}
use Rattle.mos_meaning.specs.Syntax.{Own, Formal, Body, Program}
use Rattle.mos_meaning.specs.Values.{Names, Env, Routine, place_in, load_result}
use Rattle.mos_meaning.specs.Effects.{Completion, effects_of}

-- Routines.

-- the result of a routine whose statements came to their end: that of a function is in its variable
abbrev pub result_of : Names → Env → Option Name → State → Evaluation (Option Value)
result_of names env None s = Yields None (with_store (store_behind s.memory.store) s)
result_of names env (Some n) s = bind (load_result (place_in names env Own n) s) (λ v s1. Yields (Some v) (with_store (store_behind s1.memory.store) s1))

-- its statements, on a frame of its own with the arguments and then the defaults of its other variables
abbrev pub body_of : World → Routine → Names → Body → List Argument → State → Evaluation (Option Value)
body_of w call names body given s =
    let slots : List Argument = given ++ by_values body.defaults in
    let inner : Names = record names { own = body.own } in
    let env : Env = record { bound = []; places = argument_places (length s.memory.store) 0 slots } in
    bind (effects_of w call inner body.block env (with_store (store_inside slots s.memory.store) s)) (λ flow s1. result_of inner env body.result s1)

-- a variable that is shared, or a value for a formal that is not
abbrev pub takes : Formal → Argument → Bool
takes formal (ByValue value) = not formal.shared
takes formal (ByPlace place) = formal.shared

-- an argument for each formal
abbrev pub takes_all : List Formal → List Argument → Bool
takes_all [] [] = true
takes_all (formal ∷ formals) (argument ∷ arguments) = takes formal argument && takes_all formals arguments
takes_all _ _ = false

-- there is such a routine, and it takes these arguments
abbrev pub routine_result : Option Body → World → Routine → Names → List Argument → State → Evaluation (Option Value)
routine_result None w call names given s = StopsWith Lost None s
routine_result (Some body) w call names given s =
    if takes_all body.formals given then body_of w call names body given s else StopsWith Lost None s

-- the names of a model, outside of routines
abbrev pub names_of : Program → Names
names_of program = record { own = []; model = program.names }

-- what a call of each routine does, where so many more calls may stand inside one another
abbrev pub routines : World → Program → ℕ → Routine
routines w program zero number given s = StopsWith (Failed Depth) None s
routines w program (suc n) number given s = routine_result (slice_get program.bodies number) w (routines w program n) (names_of program) given s

-- The whole run.

-- outside of routines there are no variables but the model's
abbrev pub outside_env : Env
outside_env = record { bound = []; places = [] }

-- the statements of a model from a state on
abbrev pub main_effect : World → Program → State → Evaluation Completion
main_effect w program s = effects_of w (routines w program most_calls) (names_of program) program.block outside_env s

-- the end of the text ends a model with code 0; outside a loop `break` and `next` go there, but no
-- accepted model has them there
abbrev pub final_of_run : Evaluation Completion → Final
final_of_run (Yields flow s) = record { stop = Exited (pos 0); state = s }
final_of_run (StopsWith stop line s) = record { stop = stop; state = s }

-- a run that begins with these values in the model's variables
abbrev pub run_from : World → Program → Option (List Value) → Final
run_from w program None = record { stop = Lost; state = beginning [] }
run_from w program (Some values) = final_of_run (main_effect w program (beginning values))

-- what the parameter text gives goes over the defaults
abbrev pub with_given : World → Program → Option (List Scalar) → Final
with_given w program None = refused_run
with_given w program (Some given) =
    run_from w program (with_values (map (λ (p : Parameter). place_of p.name program.names) program.params) given program.defaults)

-- how a run stops, and its state then
abbrev pub final_of : Program → List ℕ → List Reply → ℕ → Final
final_of program text replies budget =
    with_given (record { replies = replies; budget = budget }) program (given_values program.params text)

-- the meaning
abbrev pub meaning_of : Program → List ℕ → List Reply → ℕ → Outcome
meaning_of program text replies budget = final_outcome (final_of program text replies budget)

-- the values of the declared variables in their order, where the run is out of ticks; else there are none
abbrev pub globals_of : Program → List ℕ → List Reply → ℕ → List Value
globals_of program text replies budget =
    let final : Final = final_of program text replies budget in take program.declared (globals_at final.stop final.state)
