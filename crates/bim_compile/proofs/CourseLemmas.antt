-- The course of a model's image is the model's meaning.

use Rattle.std.proofs.Common.{◌≡◌, ◌≢◌, ℕ, ◌+◌, zero, suc, pos, List, [], ◌∷◌, ◌++◌, length, take, drop, Option, Some, None, refl, sym, ap, subst, ◌∙◌, append_assoc, take-append-drop, arith}
use Rattle.std.specs.Prelude.{replicate, option_map}
use Rattle.mos_text.specs.declared.scalar.Scalar.{Scalar}
use Rattle.mos_text.specs.declared.scalar.Scalar.TheVariants.{Int}
use Rattle.job_calls.specs.declared.reply.Reply.{Reply}
use Rattle.bim_code.specs.declared.image.Image.{Image}
use Rattle.bim_code.specs.declared.image.ImageType.TheVariants.{Integer}
use Rattle.bim_code.specs.declared.instruction.Instruction.TheVariants.{PushInt, End}
use Rattle.bim_code.specs.Code.{instruction_at}
use Rattle.bim_code.specs.Rules.{KeepsTicks}
use Rattle.mos_names.specs.NameLists.{Name}
use Rattle.mos_value.specs.Values.{Value, One}
use Rattle.run_state.specs.Stops.{Stop, Exited, Failed, Spent, Stopped, Asking, Stuck, Lost}
use Rattle.run_state.specs.State.{World, State, beginning, with_store, outcome_of, Final, final_outcome, globals_at, Evaluation, Yields, StopsWith}
use Rattle.run_state.specs.Parameters.{and_then, given_values}
use Rattle.bim_machine.specs.Starts.{defaults_in, Beginning, Begins, or_broken, with_given as image_given, beginning_of}
use Rattle.bim_machine.specs.Machine.{Machine, At, Halted}
use Rattle.bim_machine.specs.Courses.{Progress, run, main, start, most_steps, outcome_at, course_from, machine_globals, globals_from}
use Rattle.bim_machine.specs.Laws.{OverInTime, StaysOver, IsOver, IsPrefix}
use Rattle.mos_meaning.specs.Syntax.{Block}
use Rattle.mos_meaning.specs.Sources.{variables_of, zeros, program_of}
use Rattle.mos_meaning.specs.Effects.{Completion, Normal, ByBreak, ByNext}
use Rattle.mos_meaning.specs.Meaning.{outside_env, main_effect, final_of_run, with_given, final_of}
use Rattle.mos_meaning.specs.Working.{NeverLost}
use Rattle.bim_compile.specs.declared.draft.Labelled.{Labelled}
use Rattle.bim_compile.specs.Built.{IsBuiltBlock}
use Rattle.bim_compile.specs.Contexts.{context_of}
use Rattle.bim_compile.specs.Compiled.{at_line, block_code, block_end, types_of, labelled_of, image_of}
use Rattle.bim_compile.specs.Means.{Means, KeepsGlobals}
use Rattle.bim_compile.proofs.Leads.{Leads, same, chain, then_one, reached}
use Rattle.bim_compile.proofs.Standing.{whole, cut, all_texts}
use Rattle.bim_compile.proofs.EndLemmas.{block_after}
use Rattle.bim_compile.proofs.Stores.{Known, frame_extends, alone, begun_stores}
use Rattle.bim_compile.proofs.Lands.{Lands, owed, Ends}
use Rattle.bim_compile.proofs.StatementRuns.{bare, leading, block_runs}

-- Each global slot begins with 0.

zero_slots : (constants : List (List ℕ)) (m : ℕ) → defaults_in constants (Integer ∷ []) (replicate m 0) ≡ Some (replicate m (One (Int (pos 0))))
zero_slots constants zero = refl
zero_slots constants (suc m) = ap (λ (o : Option (List Value)). option_map (λ (vs : List Value). One (Int (pos 0)) ∷ vs) o) (zero_slots constants m)

slots_begin : (constants : List (List ℕ)) (names : List Name) → defaults_in constants (types_of names) (replicate (length names) 0) ≡ Some (zeros names)
slots_begin constants [] = refl
slots_begin constants (n ∷ names) = zero_slots constants (length (n ∷ names))

-- The end of the text.

exits : {image : Image} {w : World} (address : ℕ) (s : State)
    → instruction_at image.code address ≡ Some (PushInt (pos 0)) → instruction_at image.code (address + 5) ≡ Some End
    → Leads image w (At address (bare []) main s) (Halted (Exited (pos 0)) (address + 5) s)
exits address s p q =
    then_one (PushInt (pos 0)) address (bare []) main s _ p (then_one End (address + 5) _ main s _ q (same _))

-- a machine that comes to such an end: the same is told of it, and its globals begin so
record ComesTo (image : Image) (w : World) (from : Machine) (final : Final) : Type 0 where
  stop : Stop
  address : ℕ
  state : State
  by : Leads image w from (Halted stop address state)
  outcome_is : outcome_of stop state ≡ final_outcome final
  globals_begin : IsPrefix (globals_at final.stop final.state) (globals_at stop state)

no_globals : IsPrefix {A = Value} [] []
no_globals = record { rest = []; is = refl }

-- outside of loops `break` and `next` lead to the end of the text
leads_there : (end : ℕ) (flow : Completion) → leading end end end flow ≡ end
leads_there end Normal = refl
leads_there end ByBreak = refl
leads_there end ByNext = refl

comes : {image : Image} {w : World} {k : Known} {end : ℕ} (from : Machine) (o : Evaluation Completion) → instruction_at image.code end ≡ Some (PushInt (pos 0)) → instruction_at image.code (end + 5) ≡ Some End
    → (final_of_run o).stop ≢ Lost → Lands image w k (λ flow s1. At (leading end end end flow) (bare []) main s1) from o → ComesTo image w from (final_of_run o)
comes {image = image} {w = w} {end = end} from (Yields flow s) p q n l = record {
  stop = Exited (pos 0);
  address = end + 5;
  state = with_store l.by.0 s;
  by =
      chain from _ _ l.by.2
      (subst (λ (at : ℕ). Leads image w (At at (bare []) main (with_store l.by.0 s)) (Halted (Exited (pos 0)) (end + 5) (with_store l.by.0 s))) (sym (leads_there end flow))
      (exits end (with_store l.by.0 s) p q));
  outcome_is = refl;
  globals_begin = no_globals;
}
comes {image = image} {w = w} from (StopsWith stop line s) p q n l = stopped stop n l.by
  where
    stopped : (stop : Stop) → stop ≢ Lost → owed stop (Ends image w from stop s) → ComesTo image w from (record { stop = stop; state = s })
    stopped Lost n e = absurd (n refl)
    stopped (Exited code) n e = record { stop = Exited code; address = e.2.0; state = with_store e.0 s; by = e.2.1; outcome_is = refl; globals_begin = no_globals }
    stopped (Failed kind) n e = record { stop = Failed kind; address = e.2.0; state = with_store e.0 s; by = e.2.1; outcome_is = refl; globals_begin = no_globals }
    stopped Spent n e = record { stop = Spent; address = e.2.0; state = with_store e.0 s; by = e.2.1; outcome_is = refl; globals_begin = frame_extends s.memory.store e.0 e.1 }
    stopped Stopped n e = record { stop = Stopped; address = e.2.0; state = with_store e.0 s; by = e.2.1; outcome_is = refl; globals_begin = no_globals }
    stopped (Asking call) n e = record { stop = Asking call; address = e.2.0; state = with_store e.0 s; by = e.2.1; outcome_is = refl; globals_begin = no_globals }
    stopped Stuck n e = record { stop = Stuck; address = e.2.0; state = with_store e.0 s; by = e.2.1; outcome_is = refl; globals_begin = no_globals }

-- the machine comes to the end that the model means
main_comes : (model : Block) (w : World) → IsBuiltBlock model → (final_of_run (main_effect w (program_of model) (beginning (zeros (variables_of model))))).stop ≢ Lost
    → ComesTo (image_of model) w (start (zeros (variables_of model))) (final_of_run (main_effect w (program_of model) (beginning (zeros (variables_of model)))))
main_comes model w built n =
    let image = image_of model in
    let context = context_of model in
    let values : List Value = zeros (variables_of model) in
    let end : ℕ = block_end 0 model in
    let last : List Labelled = at_line 0 (PushInt (pos 0)) ∷ at_line 0 End ∷ [] in
    let cuts = cut image.code 0 end (block_code context 0 0 end end model) last (block_after context 0 0 end end model) (whole (labelled_of model)) in
    comes (start values) _ cuts.1.0 cuts.1.1.0 n
    (block_runs {k = alone (length values)} _ context outside_env model 0 0 end end built cuts.0 (all_texts image.constants) [] (beginning values) (values ∷ []) (begun_stores values))

-- two machines that are over after some steps are over alike
one_end : StaysOver → (image : Image) (w : World) (n m steps : ℕ) (a : Machine) → IsOver (run image w n steps a).machine → IsOver (run image w m steps a).machine
    → (run image w n steps a).machine ≡ (run image w m steps a).machine
one_end stays image w n m steps a p q =
    let one = stays image w n (n + m) steps a p (omega arith) in
    let two = stays image w m (n + m) steps a q (omega arith) in
    ap (λ (x : Progress). x.machine) (sym one ∙ two)

-- what the image does from a beginning is what the model means
record Agrees (image : Image) (w : World) (from : Beginning) (final : Final) : Type 0 where
  outcome : (course_from image w from).outcome ≡ final_outcome final
  globals : IsPrefix (globals_at final.stop final.state) (globals_from image w from)

agrees_by : OverInTime → StaysOver → (image : Image) (w : World) (values : List Value) (final : Final) → KeepsTicks image → ComesTo image w (start values) final
    → Agrees image w (Begins values) final
agrees_by in_time stays image w values final keeps c =
    let r = reached (start values) (Halted c.stop c.address c.state) c.by 0 in
    let over_there : IsOver (run image w r.0 0 (start values)).machine = record { stop = c.stop; address = c.address; state = c.state; by = r.1 } in
    let there : (run image w (most_steps image w.budget) 0 (start values)).machine ≡ Halted c.stop c.address c.state =
    one_end stays image w (most_steps image w.budget) r.0 0 (start values) (in_time image w values keeps) over_there ∙ r.1 in
    record {
      outcome = ap outcome_at there ∙ c.outcome_is;
      globals = record { rest = c.globals_begin.rest; is = ap machine_globals there ∙ c.globals_begin.is };
    }

course_agrees : OverInTime → StaysOver → (model : Block) → IsBuiltBlock model → KeepsTicks (image_of model) → (text : List ℕ) (replies : List Reply) (budget : ℕ)
    → (final_of (program_of model) text replies budget).stop ≢ Lost
    → Agrees (image_of model) (record { replies = replies; budget = budget }) (beginning_of (image_of model) text) (final_of (program_of model) text replies budget)
course_agrees in_time stays model built keeps text replies budget = given (given_values [] text)
  where
    begun : (o : Option (List Value)) (given : List Scalar) → o ≡ Some (zeros (variables_of model))
        → (with_given (record { replies = replies; budget = budget }) (program_of model) (Some given)).stop ≢ Lost
        → Agrees (image_of model) (record { replies = replies; budget = budget }) (or_broken (and_then o (λ frame. Some frame))) (with_given (record { replies = replies; budget = budget }) (program_of model) (Some given))
    begun o given e n =
        subst (λ (found : Option (List Value)). Agrees (image_of model) (record { replies = replies; budget = budget }) (or_broken (and_then found (λ frame. Some frame))) (with_given (record { replies = replies; budget = budget }) (program_of model) (Some given))) (sym e)
        (agrees_by in_time stays (image_of model) (record { replies = replies; budget = budget }) (zeros (variables_of model)) _ keeps (main_comes model (record { replies = replies; budget = budget }) built n))

    given : (o : Option (List Scalar)) → (with_given (record { replies = replies; budget = budget }) (program_of model) o).stop ≢ Lost
        → Agrees (image_of model) (record { replies = replies; budget = budget }) (image_given o (image_of model) (defaults_in (image_of model).constants (image_of model).types (image_of model).globals)) (with_given (record { replies = replies; budget = budget }) (program_of model) o)
    given None n = record { outcome = refl; globals = no_globals }
    given (Some values) n = begun (defaults_in (image_of model).constants (image_of model).types (image_of model).globals) values (slots_begin (image_of model).constants (variables_of model)) n

pub course_is_meaning : OverInTime → StaysOver → (model : Block) → IsBuiltBlock model → KeepsTicks (image_of model) → NeverLost (program_of model) → Means (program_of model) (image_of model)
course_is_meaning in_time stays model built keeps never text replies budget =
    (course_agrees in_time stays model built keeps text replies budget (never text replies budget)).outcome

-- a first part of what begins a list begins it too
take_begins : (n : ℕ) (xs ys : List Value) → IsPrefix xs ys → IsPrefix (take n xs) ys
take_begins n xs ys p = record {
  rest = drop n xs ++ p.rest;
  is = p.is ∙ ap (λ (all : List Value). all ++ p.rest) (sym (take-append-drop n xs)) ∙ append_assoc (take n xs) (drop n xs) p.rest;
}

pub keeps_globals : OverInTime → StaysOver → (model : Block) → IsBuiltBlock model → KeepsTicks (image_of model) → NeverLost (program_of model) → KeepsGlobals (program_of model) (image_of model)
keeps_globals in_time stays model built keeps never text replies budget =
    take_begins _ _ _ (course_agrees in_time stays model built keeps text replies budget (never text replies budget)).globals
