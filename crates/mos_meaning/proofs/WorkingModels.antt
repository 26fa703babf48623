-- A model whose every statement works is never stuck and never lost, and calls nothing: each variable
-- holds an integer at all times, and a loop has no more passes than ticks.

use Rattle.std.proofs.Common.{◌≡◌, ℕ, zero, suc, ◌+◌, ◌-◌, ◌<◌, List, [], ◌∷◌, ◌++◌, Bool, Option, Some, None, refl, sym, ap, subst, ◌∙◌, true, false, length, nat_lt, cond, pos, slice_get, slice_set, get_or, option_map, arith}
use Rattle.std.specs.Prelude.{if◌then◌else◌, ◌||◌, Result, Ok, Err}
use Rattle.std.specs.Str.{bytes_eq}
use Rattle.std.proofs.lemmas.Bool.Decides.{nat_tests}
use Rattle.std.proofs.lemmas.List.{length-set, length-replicate}
use Rattle.std.proofs.lemmas.List.Elements.{All-set, All-replicate}
use Rattle.std.proofs.lemmas.Option.{slice_get-get_or}
use Rattle.mos_text.specs.declared.fault_kind.FaultKind.{FaultKind}
use Rattle.mos_text.specs.declared.scalar.Scalar.{Scalar}
use Rattle.mos_text.specs.declared.scalar.Scalar.TheVariants.{Int, Bool as Truth, Str}
use Rattle.job_calls.specs.declared.reply.Reply.{Reply}
use Rattle.mos_names.specs.NameLists.{Name, has_name, place_of}
use Rattle.mos_value.specs.Values.{Value, One, SetOf, ListOf, Range, Fields}
use Rattle.mos_value.specs.Answers.{Comparison, equal, not_equal, less, at_most, greater, at_least, Operator, between, sum, difference, compare, show, answer, result_of_found}
use Rattle.mos_value.specs.Numbers.{sum_of, difference_of}
use Rattle.mos_value.specs.Texts.{text_of, show_one}
use Rattle.mos_value.specs.Answers as how
use Rattle.run_state.specs.Stops.{Lost, Outcome}
use Rattle.run_state.specs.State.{World, State, final_outcome, Evaluation, Yields, StopsWith, on_line, or_stop, evaluation_of, line_end}
use Rattle.run_state.specs.Places.{load_in, put_in, put_slot}
use Rattle.run_state.specs.Parameters.{given_values}
use Rattle.mos_meaning.specs.Syntax.{Scope, Own, Model, Expression, number, text, truth, variable, index, apply, range_of, sum_over, invoke, ask_hub, unbuilt, Shown, nothing_shown, shown_then, CoreStatement, assign, change, write, perform, tell_hub, if_, while_, do_, break_, next_, unbuilt_statement, Arms, else_, elif, Block, no_statement, statement_then}
use Rattle.mos_meaning.specs.Sources.{variables_of, program_of}
use Rattle.mos_meaning.specs.Values.{Names, Env, Routine, place_in, load_result, on_truth, ticking, value_of}
use Rattle.mos_meaning.specs.Effects.{Completion, Normal, ByBreak, ByNext, store_result, assign_result, change_result, on_text, write_result, after_pass, passes, after_statement, effect_of, effect_of_arms, effects_of}
use Rattle.mos_meaning.specs.Meaning.{final_of_run, with_given, meaning_of}
use Rattle.mos_meaning.specs.Working.{IsVariable, IsSum, IsNumeric, IsShown, IsCondition, AreShown, Works, ArmsWork, AllWork, NeverStuck, NeverLost, CallsNothing}
use Rattle.mos_meaning.proofs.Fine.{HasReason, IsInt, Sound, Fine, gave, halts, sooner, renewed, then_fine, on_line_fine, tick_fine, write_fine}

abbrev outside_names : List Name → Names
outside_names names = record { own = []; model = names }

abbrev IsTruth : Value → Type 0
IsTruth (One (Truth b)) = Unit {0}
IsTruth _ = ⊥

abbrev IsText : Value → Type 0
IsText (One (Str t)) = Unit {0}
IsText _ = ⊥

-- an integer or a text
abbrev IsPrinted : Value → Type 0
IsPrinted (One v) = Unit {0}
IsPrinted _ = ⊥

abbrev Any : Completion → Type 0
Any flow = Unit {0}

-- the place of a variable is among them
place_within : (n : Name) (names : List Name) → has_name n names ≡ true → place_of n names < length names
place_within n [] h = cc
place_within n (m ∷ names) h = by_test (bytes_eq n m) refl (place_within n names)
  where
    by_test : (test : Bool) → bytes_eq n m ≡ test → (has_name n names ≡ true → place_of n names < length names) → cond test 0 (place_of n names + 1) < length (m ∷ names)
    by_test true e more = omega arith
    by_test false e more = let rest = more (sym (ap (λ b. b || has_name n names) e) ∙ h) in omega arith

-- what an operator has found is a value of its kind
found_fine : {A : Type 0} {w : World} {names : List Name} {least : ℕ} {Is : Value → Type 0} (kind : A → Scalar) (given : Result A FaultKind) (s : State)
    → ((x : A) → Is (One (kind x))) → Sound w names least s
    → Fine w names least Is (evaluation_of (result_of_found kind given) s)
found_fine kind (Ok x) s is sound = gave sound (is x)
found_fine kind (Err fault) s is sound = halts sound tt

sum_fine : {w : World} {names : List Name} {least : ℕ} (operator : Operator) (x y : Value) (s : State) → IsSum operator → IsInt x → IsInt y → Sound w names least s
    → Fine w names least IsInt (evaluation_of (answer (between operator) (x ∷ y ∷ [])) s)
sum_fine sum (One (Int a)) (One (Int b)) s o h k sound = found_fine Int (sum_of a b) s (λ n. tt) sound
sum_fine difference (One (Int a)) (One (Int b)) s o h k sound = found_fine Int (difference_of a b) s (λ n. tt) sound
sum_fine sum (One (Int a)) y s o h k sound = absurd k
sum_fine difference (One (Int a)) y s o h k sound = absurd k
sum_fine sum x y s o h k sound = absurd h
sum_fine difference x y s o h k sound = absurd h
sum_fine (compare how) x y s o h k sound = absurd o

-- the frame of the model is the only one
loaded_fine : {w : World} {names : List Name} {least : ℕ} (slot : ℕ) (s : State) → slot < length names → Sound w names least s
    → Fine w names least IsInt (load_result (Some (record { frame = 0; slot = slot })) s)
loaded_fine {w = w} {names = names} {least = least} slot s inside sound =
    let wide = sound.wide in
    let within : slot < length sound.frame = omega (arith, wide, inside) in
    let found : slice_get sound.frame slot ≡ Some (get_or sound.frame slot (One (Int (pos 0)))) = slice_get-get_or sound.frame slot (One (Int (pos 0))) within in
    let there : load_in s.memory.store 0 slot ≡ Some (get_or sound.frame slot (One (Int (pos 0)))) = ap (λ store. load_in store 0 slot) sound.store ∙ found in
    subst (λ (o : Option Value). Fine w names least IsInt (or_stop Lost o s)) (sym there) (gave sound (sound.ints slot (One (Int (pos 0))) within))

assigned_fine : {w : World} {names : List Name} {least : ℕ} (slot : ℕ) (v : Value) (s : State) → slot < length names → IsInt v → Sound w names least s
    → Fine w names least Any (assign_result (Some (record { frame = 0; slot = slot })) v s)
assigned_fine {w = w} {names = names} {least = least} slot v s inside int sound =
    let wide = sound.wide in
    let within : slot < length sound.frame = omega (arith, wide, inside) in
    let test : nat_lt slot (length sound.frame) ≡ true = grind (arith, nat_tests, within) in
    let one : put_slot sound.frame slot v ≡ Some (slice_set sound.frame slot v) = ap (λ b. if b then Some (slice_set sound.frame slot v) else None) test in
    let there : put_in s.memory.store 0 slot v ≡ Some (slice_set sound.frame slot v ∷ []) =
    ap (λ store. put_in store 0 slot v) sound.store ∙ ap (λ (o : Option (List Value)). option_map (λ (g : List Value). g ∷ []) o) one in
    subst (λ (o : Option (List (List Value))). Fine w names least Any (store_result o s)) (sym there) (gave (record {
      frame = slice_set sound.frame slot v;
      store = refl;
      wide = length-set sound.frame slot v ∙ wide;
      ints = All-set IsInt sound.frame slot v int sound.ints;
      later = sound.later;
      within = sound.within;
      silent = sound.silent;
    }) tt)

value_fine : {w : World} {names : List Name} {least : ℕ} (call : Routine) (e : Expression) (env : Env) (s : State) → IsNumeric names e → Sound w names least s
    → Fine w names least IsInt (value_of w call (outside_names names) e env s)
value_fine call (number n) env s h sound = gave sound tt
value_fine {names = names} call (variable Model n) env s h sound = loaded_fine (place_of n names) s (place_within n names h) sound
value_fine call (variable Own n) env s h sound = absurd h
value_fine call (apply operator a b) env s h sound =
    then_fine _ _ (value_fine call a env s h.1 sound) (λ x s1 sound1 int.
    then_fine _ _ (value_fine call b env s1 h.2 sound1) (λ y s2 sound2 other. sum_fine operator x y s2 h.0 int other sound2))
value_fine call (text t) env s h sound = absurd h
value_fine call (truth b) env s h sound = absurd h
value_fine call (index n) env s h sound = absurd h
value_fine call (range_of a b) env s h sound = absurd h
value_fine call (sum_over i set condition body) env s h sound = absurd h
value_fine call (invoke routine all) env s h sound = absurd h
value_fine call (ask_hub function all) env s h sound = absurd h
value_fine call unbuilt env s h sound = absurd h

compared_fine : {w : World} {names : List Name} {least : ℕ} (how : Comparison) (x y : Value) (s : State) → IsInt x → IsInt y → Sound w names least s
    → Fine w names least IsTruth (evaluation_of (answer (between (compare how)) (x ∷ y ∷ [])) s)
compared_fine equal (One (Int a)) (One (Int b)) s h k sound = gave sound tt
compared_fine not_equal (One (Int a)) (One (Int b)) s h k sound = gave sound tt
compared_fine less (One (Int a)) (One (Int b)) s h k sound = gave sound tt
compared_fine at_most (One (Int a)) (One (Int b)) s h k sound = gave sound tt
compared_fine greater (One (Int a)) (One (Int b)) s h k sound = gave sound tt
compared_fine at_least (One (Int a)) (One (Int b)) s h k sound = gave sound tt
compared_fine how (One (Int a)) y s h k sound = absurd k
compared_fine how x y s h k sound = absurd h

condition_fine : {w : World} {names : List Name} {least : ℕ} (call : Routine) (e : Expression) (env : Env) (s : State) → IsCondition names e → Sound w names least s
    → Fine w names least IsTruth (value_of w call (outside_names names) e env s)
condition_fine call (truth b) env s h sound = gave sound tt
condition_fine call (apply (compare how) a b) env s h sound =
    then_fine _ _ (value_fine call a env s h.0 sound) (λ x s1 sound1 int.
    then_fine _ _ (value_fine call b env s1 h.1 sound1) (λ y s2 sound2 other. compared_fine how x y s2 int other sound2))
condition_fine call (apply sum a b) env s h sound = absurd h
condition_fine call (apply difference a b) env s h sound = absurd h
condition_fine call (number n) env s h sound = absurd h
condition_fine call (text t) env s h sound = absurd h
condition_fine call (variable scope n) env s h sound = absurd h
condition_fine call (index n) env s h sound = absurd h
condition_fine call (range_of a b) env s h sound = absurd h
condition_fine call (sum_over i set condition body) env s h sound = absurd h
condition_fine call (invoke routine all) env s h sound = absurd h
condition_fine call (ask_hub function all) env s h sound = absurd h
condition_fine call unbuilt env s h sound = absurd h

truth_fine : {w : World} {names : List Name} {least : ℕ} {A : Type 0} {P : A → Type 0} (c : Value) (s : State) (when_true when_false : Evaluation A) → IsTruth c
    → Fine w names least P when_true → Fine w names least P when_false → Fine w names least P (on_truth c s when_true when_false)
truth_fine (One (Truth true)) s when_true when_false h holds otherwise = holds
truth_fine (One (Truth false)) s when_true when_false h holds otherwise = otherwise
truth_fine c s when_true when_false h holds otherwise = absurd h

-- What is printed.

int_printed : (v : Value) → IsInt v → IsPrinted v
int_printed (One v) h = tt
int_printed (SetOf member members) h = absurd h
int_printed (ListOf member items) h = absurd h
int_printed (Range a b) h = absurd h
int_printed (Fields names values) h = absurd h

text_printed : (v : Value) → IsText v → IsPrinted v
text_printed (One v) h = tt
text_printed (SetOf member members) h = absurd h
text_printed (ListOf member items) h = absurd h
text_printed (Range a b) h = absurd h
text_printed (Fields names values) h = absurd h

-- one kind of value is of another
weaker : {w : World} {names : List Name} {least : ℕ} {P Q : Value → Type 0} (o : Evaluation Value) → ((v : Value) → P v → Q v) → Fine w names least P o → Fine w names least Q o
weaker (Yields v s) f h = gave h.by.0 (f v h.by.1)
weaker (StopsWith stop line s) f h = record { by = h.by }

shown_fine : {w : World} {names : List Name} {least : ℕ} (call : Routine) (e : Expression) (env : Env) (s : State) → IsShown names e → Sound w names least s
    → Fine w names least IsPrinted (value_of w call (outside_names names) e env s)
shown_fine call (text t) env s h sound = weaker _ text_printed (found_fine Str (text_of t) s (λ bytes. tt) sound)
shown_fine call (number n) env s h sound = weaker _ int_printed (value_fine call (number n) env s h sound)
shown_fine call (variable scope n) env s h sound = weaker _ int_printed (value_fine call (variable scope n) env s h sound)
shown_fine call (apply operator a b) env s h sound = weaker _ int_printed (value_fine call (apply operator a b) env s h sound)
shown_fine call (truth b) env s h sound = absurd h
shown_fine call (index n) env s h sound = absurd h
shown_fine call (range_of a b) env s h sound = absurd h
shown_fine call (sum_over i set condition body) env s h sound = absurd h
shown_fine call (invoke routine all) env s h sound = absurd h
shown_fine call (ask_hub function all) env s h sound = absurd h
shown_fine call unbuilt env s h sound = absurd h

form_fine : {w : World} {names : List Name} {least : ℕ} (v : Value) (s : State) → IsPrinted v → Sound w names least s → Fine w names least IsText (evaluation_of (answer show (v ∷ [])) s)
form_fine (One v) s h sound = found_fine Str (show_one v) s (λ bytes. tt) sound
form_fine (SetOf member members) s h sound = absurd h
form_fine (ListOf member items) s h sound = absurd h
form_fine (Range a b) s h sound = absurd h
form_fine (Fields names values) s h sound = absurd h

on_text_fine : {w : World} {names : List Name} {least : ℕ} {A : Type 0} {P : A → Type 0} (v : Value) (s : State) (go : List ℕ → Evaluation A) → IsText v
    → ((t : List ℕ) → Fine w names least P (go t)) → Fine w names least P (on_text v s go)
on_text_fine (One (Str t)) s go h k = k t
on_text_fine v s go h k = absurd h

written_fine : {w : World} {names : List Name} {least : ℕ} (call : Routine) (newline : Bool) (all : Shown) (env : Env) (held : List ℕ) (s : State) → AreShown names all → Sound w names least s
    → Fine w names least Any (write_result w call (outside_names names) newline all env held s)
written_fine call newline nothing_shown env held s h sound = write_fine (held ++ line_end newline) s _ sound (λ s1 sound1. gave sound1 tt)
written_fine call newline (shown_then e es) env held s h sound =
    then_fine _ _ (shown_fine call e env s h.0 sound) (λ v s1 sound1 prints.
    then_fine _ _ (form_fine v s1 prints sound1) (λ form s2 sound2 is_text.
    on_text_fine form s2 _ is_text (λ t. written_fine call newline es env (held ++ t) s2 h.1 sound2)))

-- Statements.

variable_fine : {w : World} {names : List Name} {least : ℕ} (scope : Scope) (n : Name) (env : Env) (v : Value) (s : State) → IsVariable names scope n → IsInt v → Sound w names least s
    → Fine w names least Any (assign_result (place_in (outside_names names) env scope n) v s)
variable_fine {names = names} Model n env v s h int sound = assigned_fine (place_of n names) v s (place_within n names h) int sound
variable_fine Own n env v s h int sound = absurd h

changed_fine : {w : World} {names : List Name} {least : ℕ} (operator : Operator) (scope : Scope) (n : Name) (env : Env) (v : Value) (s : State)
    → IsSum operator → IsVariable names scope n → IsInt v → Sound w names least s
    → Fine w names least Any (change_result operator (place_in (outside_names names) env scope n) v s)
changed_fine {names = names} operator Model n env v s o h int sound =
    then_fine _ _ (loaded_fine (place_of n names) s (place_within n names h) sound) (λ old s1 sound1 was.
    then_fine _ _ (sum_fine operator old v s1 o was int sound1) (λ new s2 sound2 is.
    variable_fine Model n env new s2 h is sound2))
changed_fine operator Own n env v s o h int sound = absurd h

-- fine wherever it begins
abbrev IsFineStatement : World → List Name → (State → Evaluation Completion) → Type 0
IsFineStatement w names go = (least : ℕ) (s : State) → Sound w names least s → Fine w names least Any (go s)

abbrev IsFineTest : World → List Name → (State → Evaluation Value) → Type 0
IsFineTest w names go = (least : ℕ) (s : State) → Sound w names least s → Fine w names least IsTruth (go s)

after_pass_fine : {w : World} {names : List Name} {least : ℕ} (flow : Completion) (s : State) (again : Evaluation Completion) → Sound w names least s → Fine w names least Any again
    → Fine w names least Any (after_pass flow s again)
after_pass_fine Normal s again sound h = h
after_pass_fine ByBreak s again sound h = gave sound tt
after_pass_fine ByNext s again sound h = h

passes_fine : {w : World} {names : List Name} (condition : State → Evaluation Value) (body : State → Evaluation Completion) → IsFineTest w names condition → IsFineStatement w names body
    → (n least : ℕ) (s : State) → w.budget < n + s.counts.ticks → Sound w names least s → Fine w names least Any (passes w n condition body s)
passes_fine condition body tests does zero least s more sound = let within = sound.within in absurd (omega (arith, more, within))
passes_fine condition body tests does (suc n) least s more sound =
    let early = sound.later in
    then_fine _ _ (tests s.counts.ticks s (renewed sound)) (λ c s1 sound1 is_truth.
    let later1 = sound1.later in
    truth_fine c s1 _ _ is_truth
    (tick_fine s1 _ sound1 (λ s2 sound2.
    then_fine _ _ (does (s1.counts.ticks + 1) s2 sound2) (λ flow s3 sound3 any.
    let later3 = sound3.later in
    let back = sooner least (omega (arith, early, later1)) sound3 in
    after_pass_fine flow s3 _ back (passes_fine condition body tests does n least s3 (omega (arith, more, later1, later3)) back))))
    (gave (sooner least early sound1) tt))

after_statement_fine : {w : World} {names : List Name} {least : ℕ} (flow : Completion) (s : State) (go : State → Evaluation Completion) → Sound w names least s → Fine w names least Any (go s)
    → Fine w names least Any (after_statement flow s go)
after_statement_fine Normal s go sound h = h
after_statement_fine ByBreak s go sound h = gave sound tt
after_statement_fine ByNext s go sound h = gave sound tt

-- a statement begins with a tick
begins_fine : {w : World} {names : List Name} {least : ℕ} (line : ℕ) (s : State) (go : State → Evaluation Completion) → Sound w names least s
    → ((s1 : State) → Sound w names least s1 → Fine w names least Any (go s1)) → Fine w names least Any (on_line line (ticking w s go))
begins_fine {least = least} line s go sound h =
    let early = sound.later in on_line_fine line _ (tick_fine s go sound (λ s1 sound1. h s1 (sooner least (omega (arith, early)) sound1)))

mutual
  effect_fine : {w : World} {names : List Name} (call : Routine) (e : CoreStatement) (env : Env) → Works names e → IsFineStatement w names (effect_of w call (outside_names names) e env)
  effect_fine call (assign line scope n e) env h least s sound =
      begins_fine line s _ sound (λ s1 sound1.
      then_fine _ _ (value_fine call e env s1 h.1 sound1) (λ v s2 sound2 int. variable_fine scope n env v s2 h.0 int sound2))
  effect_fine call (change line operator scope n e) env h least s sound =
      begins_fine line s _ sound (λ s1 sound1.
      then_fine _ _ (value_fine call e env s1 h.2 sound1) (λ v s2 sound2 int. changed_fine operator scope n env v s2 h.0 h.1 int sound2))
  effect_fine call (write line newline all) env h least s sound =
      begins_fine line s _ sound (λ s1 sound1. written_fine call newline all env [] s1 h sound1)
  effect_fine call (perform line routine all) env h least s sound = absurd h
  effect_fine call (tell_hub line function all) env h least s sound = absurd h
  effect_fine call (if_ line all) env h least s sound = begins_fine line s _ sound (λ s1 sound1. arms_fine call all env h least s1 sound1)
  effect_fine {w = w} call (while_ line e body) env h least s sound =
      begins_fine line s _ sound (λ s1 sound1.
      let within = sound1.within in
      passes_fine _ _ (λ inner s2 sound2. condition_fine call e env s2 h.0 sound2) (effect_fine call body env h.1) (suc (w.budget - s1.counts.ticks)) least s1 (omega (arith, within)) sound1)
  effect_fine call (do_ all) env h least s sound = block_fine call all env h least s sound
  effect_fine call (break_ line) env h least s sound = begins_fine line s _ sound (λ s1 sound1. gave sound1 tt)
  effect_fine call (next_ line) env h least s sound = begins_fine line s _ sound (λ s1 sound1. gave sound1 tt)
  effect_fine call unbuilt_statement env h least s sound = absurd h

  arms_fine : {w : World} {names : List Name} (call : Routine) (all : Arms) (env : Env) → ArmsWork names all → IsFineStatement w names (effect_of_arms w call (outside_names names) all env)
  arms_fine call (else_ all) env h least s sound = block_fine call all env h least s sound
  arms_fine call (elif line e all rest) env h least s sound =
      then_fine _ _ (on_line_fine line _ (condition_fine call e env s h.0 sound)) (λ c s1 sound1 is_truth.
      truth_fine c s1 _ _ is_truth (block_fine call all env h.1 least s1 sound1) (arms_fine call rest env h.2 least s1 sound1))

  block_fine : {w : World} {names : List Name} (call : Routine) (all : Block) (env : Env) → AllWork names all → IsFineStatement w names (effects_of w call (outside_names names) all env)
  block_fine call no_statement env h least s sound = gave sound tt
  block_fine call (statement_then e rest) env h least s sound =
      then_fine _ _ (effect_fine call e env h.0 least s sound) (λ flow s1 sound1 any.
      after_statement_fine flow s1 _ sound1 (block_fine call rest env h.1 least s1 sound1))

-- the run stops for a reason, and made no call
abbrev EndsWell : Outcome → Type 0
EndsWell o = HasReason o.stop × (o.calls ≡ [])

ended_fine : {w : World} {names : List Name} {least : ℕ} (o : Evaluation Completion) → Fine w names least Any o → EndsWell (final_outcome (final_of_run o))
ended_fine (Yields flow s) h = (tt, h.by.0.silent)
ended_fine (StopsWith stop line s) h = h.by

ends_well : (statements : Block) → AllWork (variables_of statements) statements → (text : List ℕ) (replies : List Reply) (budget : ℕ)
    → EndsWell (meaning_of (program_of statements) text replies budget)
ends_well statements h params replies budget = given (given_values [] params)
  where
    given : (o : Option (List Scalar)) → EndsWell (final_outcome (with_given (record { replies = replies; budget = budget }) (program_of statements) o))
    given None = (tt, refl)
    given (Some values) =
        let names : List Name = variables_of statements in
        ended_fine {w = record { replies = replies; budget = budget }} {names = names} {least = 0} _
        (block_fine _ statements _ h 0 _ (record {
          frame = (program_of statements).defaults;
          store = refl;
          wide = length-replicate (length names) (One (Int (pos 0)));
          ints = All-replicate IsInt (length names) (One (Int (pos 0))) tt;
          later = omega arith;
          within = omega arith;
          silent = refl;
        }))

pub never_stuck : (statements : Block) → AllWork (variables_of statements) statements → NeverStuck (program_of statements)
never_stuck statements h params replies budget = λ fits e. subst HasReason e (ends_well statements h params replies budget).0

pub never_lost : (statements : Block) → AllWork (variables_of statements) statements → NeverLost (program_of statements)
never_lost statements h params replies budget = λ e. subst HasReason e (ends_well statements h params replies budget).0

pub calls_nothing : (statements : Block) → AllWork (variables_of statements) statements → CallsNothing (program_of statements)
calls_nothing statements h params replies budget =
    let ends = ends_well statements h params replies budget in record { answered = ends.1; asked = λ call e. subst HasReason e ends.0 }
