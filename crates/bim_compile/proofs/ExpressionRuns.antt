-- The code of an expression leaves its value on the stack, or stops as the expression does.

use Rattle.std.proofs.Common.{◌≡◌, Bool, true, false, ℕ, ◌+◌, List, [], ◌∷◌, ◌++◌, length, Option, Some, None, refl, sym, subst}
use Rattle.std.specs.Int.{from_bool}
use Rattle.mos_text.specs.declared.scalar.Scalar.TheVariants.{Int, Bool as Truth}
use Rattle.bim_code.specs.declared.image.Image.{Image}
use Rattle.bim_code.specs.declared.instruction.Instruction.TheVariants.{PushInt, PushBool, PushText, LoadGlobal, Add, Subtract, Compare}
use Rattle.bim_code.specs.Code.{instruction_at}
use Rattle.mos_names.specs.NameLists.{place_of}
use Rattle.mos_value.specs.Values.{Value, One}
use Rattle.mos_value.specs.Answers.{Operator, between, sum, difference, compare, answer}
use Rattle.mos_value.specs.Answers as how
use Rattle.run_state.specs.Stops.{Lost}
use Rattle.run_state.specs.State.{World, State, with_store, Evaluation, bind, or_stop, evaluation_of}
use Rattle.run_state.specs.Places.{load}
use Rattle.bim_machine.specs.Machine.{At, Work, Here, On, push, settle}
use Rattle.bim_machine.specs.Instructions.{on_some, act_by_result, global, truth_of_operand, comparison_of}
use Rattle.bim_machine.specs.Courses.{site_of}
use Rattle.mos_meaning.specs.Syntax.{Own, Model, Expression, number, text, truth, variable, index, apply, range_of, sum_over, invoke, ask_hub, unbuilt}
use Rattle.mos_meaning.specs.Values.{Env, Routine, load_result, value_of}
use Rattle.bim_compile.specs.Built.{IsBuilt}
use Rattle.bim_compile.specs.Contexts.{Context}
use Rattle.bim_compile.specs.Compiled.{at_line, texts_in, operator_code, comparison_code, expression_code, expression_end}
use Rattle.bim_compile.proofs.Standing.{HasAt, HasTexts, text_parts, cut}
use Rattle.bim_compile.proofs.EndLemmas.{expression_after}
use Rattle.bim_compile.proofs.Stores.{Known, Stores, loaded_stores}
use Rattle.bim_compile.proofs.Lands.{Lands, gave, lost, then_, instruct, answer_lands}

-- from `at` on the machine computes `g`, whatever it has at hand, and comes to `end`
abbrev pub Computes : Image → World → Known → Here → (at end : ℕ) → (State → Evaluation Value) → Type 0
Computes image w k here at end g = (work : Work) (s : State) (store : List (List Value)) → Stores k s.memory.store store
    → Lands image w k (λ v s1. At end (push v work) here s1) (At at work here (with_store store s)) (g s)

pub truth_is : (b : Bool) → truth_of_operand (from_bool b) ≡ Some b
truth_is true = refl
truth_is false = refl

comparison_is : (c : how.Comparison) → comparison_of (comparison_code c) ≡ c
comparison_is how.equal = refl
comparison_is how.not_equal = refl
comparison_is how.less = refl
comparison_is how.at_most = refl
comparison_is how.greater = refl
comparison_is how.at_least = refl

-- the value of a global slot
pub load_runs : {image : Image} {w : World} {k : Known} {here : Here} (slot at : ℕ) → instruction_at image.code at ≡ Some (LoadGlobal slot)
    → Computes image w k here at (at + 5) (load_result (Some (global slot)))
load_runs {image = image} {w = w} {k = k} {here = here} slot at h work s store st = found (load (global slot) s.memory.store) refl
  where
    found : (o : Option Value) → load (global slot) s.memory.store ≡ o
        → Lands image w k (λ v s1. At (at + 5) (push v work) here s1) (At at work here (with_store store s)) (or_stop Lost o s)
    found None e = lost
    found (Some v) e =
        let there : load (global slot) store ≡ Some v = loaded_stores (global slot) v st e in
        instruct (LoadGlobal slot) h
        (subst (λ (o : Option Value). Lands image w k (λ v s1. At (at + 5) (push v work) here s1) (settle image w (on_some o (λ value. On (push value work))) (site_of (LoadGlobal slot) at) here (with_store store s)) (or_stop Lost (Some v) s)) (sym there)
        (gave v s store st))

-- an operator on the two values on top
pub operates : {image : Image} {w : World} {k : Known} {here : Here} {at : ℕ} {work : Work} (operator : Operator) (x y : Value) (s : State) (store : List (List Value)) → Stores k s.memory.store store
    → instruction_at image.code at ≡ Some (operator_code operator)
    → Lands image w k (λ v s1. At (at + 1) (push v work) here s1) (At at (push y (push x work)) here (with_store store s)) (evaluation_of (answer (between operator) (x ∷ y ∷ [])) s)
operates {at = at} sum x y s store st h = instruct Add h (answer_lands (answer (between sum) (x ∷ y ∷ [])) (site_of Add at) s store st)
operates {at = at} difference x y s store st h = instruct Subtract h (answer_lands (answer (between difference) (x ∷ y ∷ [])) (site_of Subtract at) s store st)
operates {image = image} {w = w} {k = k} {here = here} {at = at} {work = work} (compare c) x y s store st h =
    instruct (Compare (comparison_code c)) h
    (subst (λ (other : how.Comparison). Lands image w k (λ v s1. At (at + 1) (push v work) here s1) (settle image w (act_by_result (answer (between (compare other)) (x ∷ y ∷ [])) work) (site_of (Compare (comparison_code c)) at) here (with_store store s)) (evaluation_of (answer (between (compare c)) (x ∷ y ∷ [])) s)) (sym (comparison_is c))
    (answer_lands (answer (between (compare c)) (x ∷ y ∷ [])) (site_of (Compare (comparison_code c)) at) s store st))

-- two operands and an operator
pub apply_runs : {image : Image} {w : World} {k : Known} {here : Here} {at middle last : ℕ} (operator : Operator) (f g : State → Evaluation Value)
    → Computes image w k here at middle f → Computes image w k here middle last g → instruction_at image.code last ≡ Some (operator_code operator)
    → Computes image w k here at (last + 1) (λ s. bind (f s) (λ x s1. bind (g s1) (λ y s2. evaluation_of (answer (between operator) (x ∷ y ∷ [])) s2)))
apply_runs operator f g rf rg h work s store st =
    then_ _ _ (rf work s store st) (λ x s1 store1 st1.
    then_ _ _ (rg (push x work) s1 store1 st1) (λ y s2 store2 st2. operates operator x y s2 store2 st2 h))

pub expression_runs : {image : Image} {w : World} {k : Known} {here : Here} (call : Routine) (context : Context) (env : Env) (e : Expression) (line c at : ℕ)
    → IsBuilt e → HasAt image.code at (expression_code context line c e) → HasTexts image.constants c (texts_in e)
    → Computes image w k here at (expression_end at e) (value_of w call context.names e env)
expression_runs call context env (number n) line c at built h t work s store st = instruct (PushInt n) h.0 (gave (One (Int n)) s store st)
expression_runs {image = image} {w = w} {k = k} {here = here} call context env (text bytes) line c at built h t work s store st =
    instruct (PushText c) h.0
    (subst (λ (o : Option (List ℕ)). Lands image w k (λ v s1. At (at + 5) (push v work) here s1) (settle image w (on_some o (λ found. act_by_result (how.text found) work)) (site_of (PushText c) at) here (with_store store s)) (evaluation_of (how.text bytes) s)) (sym t.0)
    (answer_lands (how.text bytes) (site_of (PushText c) at) s store st))
expression_runs {image = image} {w = w} {k = k} {here = here} call context env (truth b) line c at built h t work s store st =
    instruct (PushBool (from_bool b)) h.0
    (subst (λ (o : Option Bool). Lands image w k (λ v s1. At (at + 5) (push v work) here s1) (settle image w (on_some o (λ found. On (push (One (Truth found)) work))) (site_of (PushBool (from_bool b)) at) here (with_store store s)) (value_of w call context.names (truth b) env s)) (sym (truth_is b))
    (gave (One (Truth b)) s store st))
expression_runs call context env (variable Model n) line c at built h t work s store st = load_runs (place_of n context.names.model) at h.0 work s store st
expression_runs call context env (variable Own n) line c at built h t work s store st = absurd built
expression_runs {image = image} call context env (apply operator a b) line c at built h t work s store st =
    let l : ℕ = c + length (texts_in a) in
    let middle : ℕ = expression_end at a in
    let last : ℕ = expression_end middle b in
    let cuts = cut image.code at middle (expression_code context line c a) (expression_code context line l b ++ at_line line (operator_code operator) ∷ []) (expression_after context line c at a) h in
    let ends = cut image.code middle last (expression_code context line l b) (at_line line (operator_code operator) ∷ []) (expression_after context line l middle b) cuts.1 in
    let texts = text_parts image.constants c (texts_in a) (texts_in b) t in
    apply_runs operator _ _ (expression_runs call context env a line c at built.0 cuts.0 texts.0) (expression_runs call context env b line l middle built.1 ends.0 texts.1) ends.1.0 work s store st
expression_runs call context env (index n) line c at built h t work s store st = absurd built
expression_runs call context env (range_of a b) line c at built h t work s store st = absurd built
expression_runs call context env (sum_over i set condition body) line c at built h t work s store st = absurd built
expression_runs call context env (invoke routine all) line c at built h t work s store st = absurd built
expression_runs call context env (ask_hub function all) line c at built h t work s store st = absurd built
expression_runs call context env unbuilt line c at built h t work s store st = absurd built
