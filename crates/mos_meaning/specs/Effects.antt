-- The effect of a statement, by the tree: each takes a tick when it begins, and each pass of a loop takes
-- one. A stop has the line of the piece in which it arose.

use Rattle.std.specs.Prelude.{ℕ, ◌-◌, zero, suc, Bool, List, [], ◌∷◌, ◌++◌, Option, Some, None, reverse}
use Rattle.mos_text.specs.declared.scalar.Scalar.TheVariants.{Str}
use Rattle.mos_value.specs.Values.{Value, One, Place}
use Rattle.mos_value.specs.Answers.{Operator, between, show, answer}
use Rattle.run_state.specs.Stops.{Stuck, Lost}
use Rattle.run_state.specs.State.{World, State, with_store, Evaluation, Yields, StopsWith, bind, on_line, evaluation_of, line_end}
use Rattle.run_state.specs.State as state
use Rattle.run_state.specs.Places.{put}
use Rattle.mos_meaning.specs.Syntax.{Shown, nothing_shown, shown_then, CoreStatement, assign, change, write, perform, tell_hub, if_, while_, do_, break_, next_, unbuilt_statement, Arms, else_, elif, Block, no_statement, statement_then}
use Rattle.mos_meaning.specs.Values.{Names, Env, Routine, place_in, load_result, on_truth, ticking, calling, asking, value_of, arguments_of}

-- how statements end that do not stop the run
pub data Completion : Type 0 where
  Normal : Completion  -- on to the next one
  ByBreak : Completion  -- out of the innermost loop
  ByNext : Completion  -- to the next pass of the innermost loop

-- Variables.

-- what is put goes on
abbrev pub store_result : Option (List (List Value)) → State → Evaluation Completion
store_result None s = StopsWith Lost None s
store_result (Some store) s = Yields Normal (with_store store s)

-- a value goes to a variable
abbrev pub assign_result : Option Place → Value → State → Evaluation Completion
assign_result None value s = StopsWith Lost None s
assign_result (Some place) value s = store_result (put place value s.memory.store) s

-- the old value, read now, and this one give the new value
abbrev pub change_result : Operator → Option Place → Value → State → Evaluation Completion
change_result operator place value s =
    bind (load_result place s) (λ old s1. bind (evaluation_of (answer (between operator) (old ∷ value ∷ [])) s1) (λ new s2. assign_result place new s2))

-- Calls.

-- what a procedure did; a function has a value, and is lost here
abbrev pub no_value : Option Value → State → Evaluation Completion
no_value None s = Yields Normal s
no_value (Some value) s = StopsWith Lost None s

-- Printing.

-- the text of a printed form
abbrev pub on_text : {A : Type 0} → Value → State → (List ℕ → Evaluation A) → Evaluation A
on_text (One (Str t)) s go = go t
on_text _ s go = StopsWith Stuck None s

-- the arguments are evaluated and printed in order before anything is written
abbrev pub write_result : World → Routine → Names → Bool → Shown → Env → List ℕ → State → Evaluation Completion
write_result w call names newline nothing_shown env held s = bind (state.write (held ++ line_end newline) s) (λ done s1. Yields Normal s1)
write_result w call names newline (shown_then e es) env held s =
    bind (value_of w call names e env s) (λ v s1. bind (evaluation_of (answer show (v ∷ [])) s1) (λ form s2.
    on_text form s2 (λ t. write_result w call names newline es env (held ++ t) s2)))

-- Loops and blocks.

-- what comes behind the body of a pass
abbrev pub after_pass : Completion → State → Evaluation Completion → Evaluation Completion
after_pass Normal s again = again
after_pass ByBreak s again = Yields Normal s
after_pass ByNext s again = again

-- the passes of a loop, each of which takes a tick: so there are fewer than `n`, where `n` is more than
-- the ticks that are left
abbrev pub passes : World → ℕ → (State → Evaluation Value) → (State → Evaluation Completion) → State → Evaluation Completion
passes w zero condition body s = StopsWith Lost None s
passes w (suc n) condition body s =
    bind (condition s) (λ c s1. on_truth c s1
    (ticking w s1 (λ s2. bind (body s2) (λ flow s3. after_pass flow s3 (passes w n condition body s3))))
    (Yields Normal s1))

-- the rest of a block, where a statement goes on
abbrev pub after_statement : Completion → State → (State → Evaluation Completion) → Evaluation Completion
after_statement Normal s go = go s
after_statement ByBreak s go = Yields ByBreak s
after_statement ByNext s go = Yields ByNext s

abbrev mutual
  -- of one statement
  pub effect_of : World → Routine → Names → CoreStatement → Env → State → Evaluation Completion
  effect_of w call names (assign line scope n e) env s =
      on_line line (ticking w s (λ s1. bind (value_of w call names e env s1) (λ v s2. assign_result (place_in names env scope n) v s2)))
  effect_of w call names (change line operator scope n e) env s =
      on_line line (ticking w s (λ s1. bind (value_of w call names e env s1) (λ v s2. change_result operator (place_in names env scope n) v s2)))
  effect_of w call names (write line newline all) env s = on_line line (ticking w s (λ s1. write_result w call names newline all env [] s1))
  effect_of w call names (perform line routine all) env s =
      on_line line (ticking w s (λ s1. bind (arguments_of w call names all env [] s1) (λ given s2.
      bind (calling w call routine (reverse given) s2) no_value)))
  effect_of w call names (tell_hub line function all) env s =
      on_line line (ticking w s (λ s1. bind (arguments_of w call names all env [] s1) (λ given s2.
      bind (asking w function (reverse given) s2) no_value)))
  effect_of w call names (if_ line all) env s = on_line line (ticking w s (λ s1. effect_of_arms w call names all env s1))
  effect_of w call names (while_ line e body) env s =
      on_line line (ticking w s (λ s1. passes w (suc (w.budget - s1.counts.ticks)) (value_of w call names e env) (effect_of w call names body env) s1))
  effect_of w call names (do_ all) env s = effects_of w call names all env s
  effect_of w call names (break_ line) env s = on_line line (ticking w s (λ s1. Yields ByBreak s1))
  effect_of w call names (next_ line) env s = on_line line (ticking w s (λ s1. Yields ByNext s1))
  effect_of w call names unbuilt_statement env s = StopsWith Lost None s

  -- the first branch whose condition is true, or what stands under `else`
  pub effect_of_arms : World → Routine → Names → Arms → Env → State → Evaluation Completion
  effect_of_arms w call names (else_ all) env s = effects_of w call names all env s
  effect_of_arms w call names (elif line e all rest) env s =
      bind (on_line line (value_of w call names e env s)) (λ c s1. on_truth c s1 (effects_of w call names all env s1) (effect_of_arms w call names rest env s1))

  -- of the statements of a block
  pub effects_of : World → Routine → Names → Block → Env → State → Evaluation Completion
  effects_of w call names no_statement env s = Yields Normal s
  effects_of w call names (statement_then e rest) env s =
      bind (effect_of w call names e env s) (λ flow s1. after_statement flow s1 (λ s2. effects_of w call names rest env s2))
