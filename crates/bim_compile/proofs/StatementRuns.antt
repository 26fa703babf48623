-- The code of a statement does what the statement does, and lands behind itself or where `break` and
-- `next` lead, or stops as it does.

use Rattle.std.proofs.Common.{◌≡◌, ℕ, ◌+◌, ◌-◌, zero, suc, List, [], ◌∷◌, ◌++◌, length, Option, Some, None, Bool, sym, subst}
use Rattle.std.specs.Int.{from_bool}
use Rattle.mos_text.specs.declared.scalar.Scalar.TheVariants.{Bool as Truth, Str}
use Rattle.bim_code.specs.declared.image.Image.{Image}
use Rattle.bim_code.specs.declared.instruction.Instruction.TheVariants.{Tick, PushBool, LoadGlobal, StoreGlobal, Swap, Jump, JumpIf, JumpNot, Show, Write, Line}
use Rattle.bim_code.specs.declared.instruction.Instruction.{Instruction}
use Rattle.bim_code.specs.Code.{instruction_at}
use Rattle.mos_names.specs.NameLists.{place_of}
use Rattle.mos_value.specs.Values.{Value, One, Operand}
use Rattle.mos_value.specs.Answers.{Operator, sum, difference, compare, show, answer}
use Rattle.run_state.specs.Stops.{Stuck}
use Rattle.run_state.specs.State.{World, State, with_store, Evaluation, Yields, StopsWith, bind, on_line, evaluation_of, line_end}
use Rattle.run_state.specs.State as state
use Rattle.bim_machine.specs.Machine.{Machine, At, Work, Here, On, push, settle}
use Rattle.bim_machine.specs.Instructions.{on_some, global}
use Rattle.bim_machine.specs.Courses.{site_of}
use Rattle.mos_meaning.specs.Syntax.{Own, Model, Shown, nothing_shown, shown_then, CoreStatement, assign, change, write, perform, tell_hub, if_, while_, do_, break_, next_, unbuilt_statement, Arms, else_, elif, Block, no_statement, statement_then}
use Rattle.mos_meaning.specs.Values.{Env, Routine, ticking, value_of}
use Rattle.mos_meaning.specs.Effects.{Completion, Normal, ByBreak, ByNext, store_result, assign_result, change_result, on_text, write_result, after_pass, passes, after_statement, effect_of, effect_of_arms, effects_of}
use Rattle.bim_compile.specs.Built.{AreBuilt, IsBuiltStatement, AreBuiltArms, IsBuiltBlock}
use Rattle.bim_compile.specs.Contexts.{Context}
use Rattle.bim_compile.specs.Compiled.{at_line, texts_in, texts_in_all, texts_in_statement, texts_in_arms, texts_in_block, operator_code, expression_code, expression_end, arguments_code, arguments_end, statement_code, statement_end, arms_code, arms_end, block_code, block_end}
use Rattle.bim_compile.proofs.Standing.{HasAt, HasTexts, text_parts, cut}
use Rattle.bim_compile.proofs.EndLemmas.{expression_after, arguments_after, statement_after, block_after}
use Rattle.bim_compile.proofs.Stores.{Known, Stores}
use Rattle.bim_compile.proofs.Lands.{Lands, gave, halts, lost, onward, then_, marked, instruct, then_tick, answer_lands, then_if, then_not, put_lands, write_lands}
use Rattle.bim_compile.proofs.ExpressionRuns.{Computes, truth_is, load_runs, operates, expression_runs}

-- operands of what stands around, and nothing held
abbrev pub bare : List Operand → Work
bare stack = record { stack = stack; held = [] }

abbrev pub holding : List Operand → List ℕ → Work
holding stack held = record { stack = stack; held = held }

-- where statements lead that do not stop
abbrev pub leading : (end out next : ℕ) → Completion → ℕ
leading end out next Normal = end
leading end out next ByBreak = out
leading end out next ByNext = next

-- from `at` on the machine does `g`, over whatever operands stand around
abbrev pub Runs : Image → World → Known → Here → (at end out next : ℕ) → (State → Evaluation Completion) → Type 0
Runs image w k here at end out next g = (stack : List Operand) (s : State) (store : List (List Value)) → Stores k s.memory.store store
    → Lands image w k (λ flow s1. At (leading end out next flow) (bare stack) here s1) (At at (bare stack) here (with_store store s)) (g s)

-- Variables.

assign_runs : {image : Image} {w : World} {k : Known} {here : Here} {out next : ℕ} (slot at : ℕ) (v : Value) (stack : List Operand) (s : State) (store : List (List Value))
    → Stores k s.memory.store store → instruction_at image.code at ≡ Some (StoreGlobal slot)
    → Lands image w k (λ flow s1. At (leading (at + 5) out next flow) (bare stack) here s1) (At at (push v (bare stack)) here (with_store store s)) (assign_result (Some (global slot)) v s)
assign_runs slot at v stack s store st h = instruct (StoreGlobal slot) h (flows _ (put_lands (global slot) v (site_of (StoreGlobal slot) at) s store st))
  where
    flows : {image : Image} {w : World} {k : Known} {here : Here} {out next end : ℕ} {work : Work} {from : Machine} (o : Option (List (List Value)))
        → Lands image w k (λ flow s1. At end work here s1) from (store_result o s)
        → Lands image w k (λ flow s1. At (leading end out next flow) work here s1) from (store_result o s)
    flows None l = lost
    flows (Some after) l = record { by = l.by }

change_runs : {image : Image} {w : World} {k : Known} {here : Here} {out next : ℕ} (operator : Operator) (line slot at : ℕ) (v : Value) (stack : List Operand) (s : State) (store : List (List Value))
    → Stores k s.memory.store store
    → HasAt image.code at (at_line line (LoadGlobal slot) ∷ at_line line Swap ∷ at_line line (operator_code operator) ∷ at_line line (StoreGlobal slot) ∷ [])
    → instruction_at image.code (at + 5 + 1 + 1) ≡ Some (StoreGlobal slot)
    → Lands image w k (λ flow s1. At (leading (at + 5 + 1 + 1 + 5) out next flow) (bare stack) here s1) (At at (push v (bare stack)) here (with_store store s)) (change_result operator (Some (global slot)) v s)
change_runs operator line slot at v stack s store st h last =
    then_ _ _ (load_runs slot at h.0 (push v (bare stack)) s store st) (λ old s1 store1 st1.
    instruct Swap h.1.0
    (then_ _ _ (operates operator old v s1 store1 st1 h.1.1.0) (λ new s2 store2 st2.
    assign_runs slot (at + 5 + 1 + 1) new stack s2 store2 st2 last)))

-- the last of these instructions
changed_last : (code : List Instruction) (operator : Operator) (line slot at : ℕ)
    → HasAt code at (at_line line (LoadGlobal slot) ∷ at_line line Swap ∷ at_line line (operator_code operator) ∷ at_line line (StoreGlobal slot) ∷ [])
    → instruction_at code (at + 5 + 1 + 1) ≡ Some (StoreGlobal slot)
changed_last code sum line slot at h = h.1.1.1.0
changed_last code difference line slot at h = h.1.1.1.0
changed_last code (compare how) line slot at h = h.1.1.1.0

-- Printing.

-- the truth that says whether a newline is wanted
newline_lands : {image : Image} {w : World} {k : Known} {here : Here} {out next : ℕ} (line : ℕ) (newline : Bool) (held : List ℕ) (at : ℕ) (stack : List Operand) (s : State) (store : List (List Value))
    → Stores k s.memory.store store → HasAt image.code at (at_line line (PushBool (from_bool newline)) ∷ at_line line Line ∷ [])
    → Lands image w k (λ flow s1. At (leading (at + 5 + 1) out next flow) (bare stack) here s1) (At at (holding stack held) here (with_store store s))
    (bind (state.write (held ++ line_end newline) s) (λ done s1. Yields Normal s1))
newline_lands {image = image} {w = w} {k = k} {here = here} {out = out} {next = next} line newline held at stack s store st h =
    instruct (PushBool (from_bool newline)) h.0
    (subst (λ (o : Option Bool). Lands image w k (λ flow s1. At (leading (at + 5 + 1) out next flow) (bare stack) here s1) (settle image w (on_some o (λ b. On (push (One (Truth b)) (holding stack held)))) (site_of (PushBool (from_bool newline)) at) here (with_store store s)) (bind (state.write (held ++ line_end newline) s) (λ done s1. Yields Normal s1))) (sym (truth_is newline))
    (instruct Line h.1.0
    (then_ _ _ (write_lands {work = bare stack} (held ++ line_end newline) (site_of Line (at + 5)) s store st) (λ done s1 store1 st1. gave Normal s1 store1 st1))))

-- a text that is held
text_lands : {image : Image} {w : World} {k : Known} {here : Here} {to : Completion → State → Machine} (v : Value) (at : ℕ) (held : List ℕ) (stack : List Operand) (s : State) (store : List (List Value)) (go : List ℕ → Evaluation Completion)
    → Stores k s.memory.store store → instruction_at image.code at ≡ Some Write
    → ((t : List ℕ) → Lands image w k to (At (at + 1) (holding stack (held ++ t)) here (with_store store s)) (go t))
    → Lands image w k to (At at (push v (holding stack held)) here (with_store store s)) (on_text v s go)
text_lands (One (Str t)) at held stack s store go st h p = instruct Write h (p t)
text_lands v at held stack s store go st h p = instruct Write h (halts Stuck None s store at st)

arguments_run : {image : Image} {w : World} {k : Known} {here : Here} {out next : ℕ} (call : Routine) (context : Context) (env : Env) (newline : Bool) (all : Shown) (line c at : ℕ) (held : List ℕ)
    (stack : List Operand) (s : State) (store : List (List Value)) → Stores k s.memory.store store
    → AreBuilt all → HasAt image.code at (arguments_code context line c all)
    → HasAt image.code (arguments_end at all) (at_line line (PushBool (from_bool newline)) ∷ at_line line Line ∷ [])
    → HasTexts image.constants c (texts_in_all all)
    → Lands image w k (λ flow s1. At (leading (arguments_end at all + 5 + 1) out next flow) (bare stack) here s1) (At at (holding stack held) here (with_store store s)) (write_result w call context.names newline all env held s)
arguments_run call context env newline nothing_shown line c at held stack s store st built h last t = newline_lands line newline held at stack s store st last
arguments_run {image = image} call context env newline (shown_then e es) line c at held stack s store st built h last t =
    let l : ℕ = c + length (texts_in e) in
    let middle : ℕ = expression_end at e in
    let cuts = cut image.code at middle (expression_code context line c e) (at_line line Show ∷ at_line line Write ∷ arguments_code context line l es) (expression_after context line c at e) h in
    let texts = text_parts image.constants c (texts_in e) (texts_in_all es) t in
    then_ _ _ (expression_runs call context env e line c at built.0 cuts.0 texts.0 (holding stack held) s store st) (λ v s1 store1 st1.
    instruct Show cuts.1.0
    (then_ _ _ (answer_lands {work = holding stack held} (answer show (v ∷ [])) (site_of Show middle) s1 store1 st1) (λ form s2 store2 st2.
    text_lands form (middle + 1) held stack s2 store2 _ st2 cuts.1.1.0 (λ bytes.
    arguments_run call context env newline es line l (middle + 1 + 1) (held ++ bytes) stack s2 store2 st2 built.1 cuts.1.1.1 last texts.1))))

-- Loops and blocks.

-- behind the body of a pass
then_pass : {image : Image} {w : World} {k : Known} {here : Here} {test end out next : ℕ} (flow : Completion) (stack : List Operand) (s : State) (store : List (List Value)) (again : Evaluation Completion) → Stores k s.memory.store store
    → Lands image w k (λ flow s1. At (leading end out next flow) (bare stack) here s1) (At test (bare stack) here (with_store store s)) again
    → Lands image w k (λ flow s1. At (leading end out next flow) (bare stack) here s1) (At (leading test end test flow) (bare stack) here (with_store store s)) (after_pass flow s again)
then_pass Normal stack s store again st p = p
then_pass ByBreak stack s store again st p = gave Normal s store st
then_pass ByNext stack s store again st p = p

-- the passes of a loop, from the test on: the test stands from `test` to `last`, where a jump leads back to
-- the tick at `pass`, and the body behind that tick
pub passes_run : {image : Image} {w : World} {k : Known} {here : Here} {test last pass out next : ℕ} (condition : State → Evaluation Value) (body : State → Evaluation Completion)
    → Computes image w k here test last condition → instruction_at image.code last ≡ Some (JumpIf pass) → instruction_at image.code pass ≡ Some Tick
    → Runs image w k here (pass + 1) test (last + 5) test body
    → (n : ℕ) → Runs image w k here test (last + 5) out next (passes w n condition body)
passes_run condition body tests jumps ticks does zero stack s store st = lost
passes_run condition body tests jumps ticks does (suc n) stack s store st =
    then_ _ _ (tests (bare stack) s store st) (λ c s1 store1 st1.
    then_if c s1 store1 _ _ st1 jumps
    (then_tick s1 store1 _ st1 ticks (λ s2 st2.
    then_ _ _ (does stack s2 store1 st2) (λ flow s3 store3 st3.
    then_pass flow stack s3 store3 _ st3 (passes_run condition body tests jumps ticks does n stack s3 store3 st3))))
    (gave Normal s1 store1 st1))

-- behind a statement of a block
then_rest : {image : Image} {w : World} {k : Known} {here : Here} {middle end out next : ℕ} (flow : Completion) (stack : List Operand) (s : State) (store : List (List Value)) (go : State → Evaluation Completion) → Stores k s.memory.store store
    → Lands image w k (λ flow s1. At (leading end out next flow) (bare stack) here s1) (At middle (bare stack) here (with_store store s)) (go s)
    → Lands image w k (λ flow s1. At (leading end out next flow) (bare stack) here s1) (At (leading middle out next flow) (bare stack) here (with_store store s)) (after_statement flow s go)
then_rest Normal stack s store go st p = p
then_rest ByBreak stack s store go st p = gave ByBreak s store st
then_rest ByNext stack s store go st p = gave ByNext s store st

-- behind statements the machine jumps to another place
jump_runs : {image : Image} {w : World} {k : Known} {here : Here} {at middle end out next : ℕ} (g : State → Evaluation Completion) → instruction_at image.code middle ≡ Some (Jump end)
    → Runs image w k here at middle out next g → Runs image w k here at end out next g
jump_runs {image = image} {w = w} {k = k} {here = here} {middle = middle} {end = end} {out = out} {next = next} g h r stack s store st = jumps (g s) (r stack s store st)
  where
    jumps : {from : Machine} (o : Evaluation Completion) → Lands image w k (λ flow s1. At (leading middle out next flow) (bare stack) here s1) from o
        → Lands image w k (λ flow s1. At (leading end out next flow) (bare stack) here s1) from o
    jumps {from = from} (Yields Normal s1) l = onward from (At middle (bare stack) here (with_store l.by.0 s1)) (Yields Normal s1) l.by.2 (instruct (Jump end) h (gave Normal s1 l.by.0 l.by.1))
    jumps (Yields ByBreak s1) l = record { by = l.by }
    jumps (Yields ByNext s1) l = record { by = l.by }
    jumps (StopsWith stop line s1) l = record { by = l.by }

-- a statement begins with a tick
begins : {image : Image} {w : World} {k : Known} {here : Here} {at end out next : ℕ} (line : ℕ) (g : State → Evaluation Completion) → instruction_at image.code at ≡ Some Tick
    → Runs image w k here (at + 1) end out next g → Runs image w k here at end out next (λ s. on_line line (ticking w s g))
begins line g h r stack s store st = marked line _ (then_tick s store g st h (λ s1 st1. r stack s1 store st1))

mutual
  pub statement_runs : {image : Image} {w : World} {k : Known} {here : Here} (call : Routine) (context : Context) (env : Env) (e : CoreStatement) (c at out next : ℕ)
      → IsBuiltStatement e → HasAt image.code at (statement_code context c at out next e) → HasTexts image.constants c (texts_in_statement e)
      → Runs image w k here at (statement_end at e) out next (effect_of w call context.names e env)
  statement_runs {image = image} call context env (assign line Model n e) c at out next built h t =
      let last : ℕ = expression_end (at + 1) e in
      let cuts = cut image.code (at + 1) last (expression_code context line c e) (at_line line (StoreGlobal (place_of n context.names.model)) ∷ []) (expression_after context line c (at + 1) e) h.1 in
      begins line _ h.0 (λ stack s store st.
      then_ _ _ (expression_runs call context env e line c (at + 1) built.1 cuts.0 t (bare stack) s store st) (λ v s1 store1 st1.
      assign_runs (place_of n context.names.model) last v stack s1 store1 st1 cuts.1.0))
  statement_runs call context env (assign line Own n e) c at out next built h t = absurd built.0
  statement_runs {image = image} call context env (change line operator Model n e) c at out next built h t =
      let last : ℕ = expression_end (at + 1) e in
      let slot : ℕ = place_of n context.names.model in
      let cuts = cut image.code (at + 1) last (expression_code context line c e)
      (at_line line (LoadGlobal slot) ∷ at_line line Swap ∷ at_line line (operator_code operator) ∷ at_line line (StoreGlobal slot) ∷ [])
      (expression_after context line c (at + 1) e) h.1 in
      begins line _ h.0 (λ stack s store st.
      then_ _ _ (expression_runs call context env e line c (at + 1) built.1 cuts.0 t (bare stack) s store st) (λ v s1 store1 st1.
      change_runs operator line slot last v stack s1 store1 st1 cuts.1 (changed_last image.code operator line slot last cuts.1)))
  statement_runs call context env (change line operator Own n e) c at out next built h t = absurd built.0
  statement_runs {image = image} call context env (write line newline all) c at out next built h t =
      let last : ℕ = arguments_end (at + 1) all in
      let cuts = cut image.code (at + 1) last (arguments_code context line c all) (at_line line (PushBool (from_bool newline)) ∷ at_line line Line ∷ []) (arguments_after context line c (at + 1) all) h.1 in
      begins line _ h.0 (λ stack s store st. arguments_run call context env newline all line c (at + 1) [] stack s store st built cuts.0 cuts.1 t)
  statement_runs call context env (perform line routine all) c at out next built h t = absurd built
  statement_runs call context env (tell_hub line function all) c at out next built h t = absurd built
  statement_runs call context env (if_ line all) c at out next built h t =
      begins line _ h.0 (arms_run call context env all c (at + 1) out next built h.1 t)
  statement_runs {image = image} {w = w} call context env (while_ line e body) c at out next built h t =
      let pass : ℕ = at + 1 + 5 in
      let test : ℕ = statement_end (pass + 1) body in
      let last : ℕ = expression_end test e in
      let l : ℕ = c + length (texts_in_statement body) in
      let inner = statement_code context c (pass + 1) (last + 5) test body in
      let cuts = cut image.code (pass + 1) test inner (expression_code context line l e ++ at_line line (JumpIf pass) ∷ []) (statement_after context c (pass + 1) (last + 5) test body) h.1.1.1 in
      let ends = cut image.code test last (expression_code context line l e) (at_line line (JumpIf pass) ∷ []) (expression_after context line l test e) cuts.1 in
      let texts = text_parts image.constants c (texts_in_statement body) (texts_in e) t in
      begins line _ h.0 (λ stack s store st.
      instruct (Jump test) h.1.0
      (passes_run (value_of w call context.names e env) (effect_of w call context.names body env) (expression_runs call context env e line l test built.0 ends.0 texts.1) ends.1.0 h.1.1.0
      (statement_runs call context env body c (pass + 1) (last + 5) test built.1 cuts.0 texts.0) (suc (w.budget - s.counts.ticks)) stack s store st))
  statement_runs call context env (do_ all) c at out next built h t = block_runs call context env all c at out next built h t
  statement_runs call context env (break_ line) c at out next built h t =
      begins line _ h.0 (λ stack s store st. instruct (Jump out) h.1.0 (gave ByBreak s store st))
  statement_runs call context env (next_ line) c at out next built h t =
      begins line _ h.0 (λ stack s store st. instruct (Jump next) h.1.0 (gave ByNext s store st))
  statement_runs call context env unbuilt_statement c at out next built h t = absurd built

  pub arms_run : {image : Image} {w : World} {k : Known} {here : Here} (call : Routine) (context : Context) (env : Env) (all : Arms) (c at out next : ℕ)
      → AreBuiltArms all → HasAt image.code at (arms_code context c at (arms_end at all) out next all) → HasTexts image.constants c (texts_in_arms all)
      → Runs image w k here at (arms_end at all) out next (effect_of_arms w call context.names all env)
  arms_run call context env (else_ all) c at out next built h t = block_runs call context env all c at out next built h t
  arms_run {image = image} call context env (elif line e all rest) c at out next built h t =
      let middle : ℕ = expression_end at e in
      let body : ℕ = middle + 5 in
      let jump : ℕ = block_end body all in
      let other : ℕ = jump + 5 in
      let end : ℕ = arms_end other rest in
      let l : ℕ = c + length (texts_in e) in
      let m : ℕ = l + length (texts_in_block all) in
      let later = at_line line (Jump end) ∷ arms_code context m other end out next rest in
      let inner = block_code context l body out next all in
      let cuts = cut image.code at middle (expression_code context line c e) (at_line line (JumpNot other) ∷ (inner ++ later)) (expression_after context line c at e) h in
      let ends = cut image.code body jump inner later (block_after context l body out next all) cuts.1.1 in
      let texts = text_parts image.constants c (texts_in e) (texts_in_block all ++ texts_in_arms rest) t in
      let others = text_parts image.constants l (texts_in_block all) (texts_in_arms rest) texts.1 in
      λ stack s store st.
      then_ _ _ (marked line _ (expression_runs call context env e line c at built.0 cuts.0 texts.0 (bare stack) s store st)) (λ v s1 store1 st1.
      then_not v s1 store1 _ _ st1 cuts.1.0
      (jump_runs _ ends.1.0 (block_runs call context env all l body out next built.1 ends.0 others.0) stack s1 store1 st1)
      (arms_run call context env rest m other out next built.2 ends.1.1 others.1 stack s1 store1 st1))

  pub block_runs : {image : Image} {w : World} {k : Known} {here : Here} (call : Routine) (context : Context) (env : Env) (all : Block) (c at out next : ℕ)
      → IsBuiltBlock all → HasAt image.code at (block_code context c at out next all) → HasTexts image.constants c (texts_in_block all)
      → Runs image w k here at (block_end at all) out next (effects_of w call context.names all env)
  block_runs call context env no_statement c at out next built h t = λ stack s store st. gave Normal s store st
  block_runs {image = image} call context env (statement_then e rest) c at out next built h t =
      let l : ℕ = c + length (texts_in_statement e) in
      let middle : ℕ = statement_end at e in
      let cuts = cut image.code at middle (statement_code context c at out next e) (block_code context l middle out next rest) (statement_after context c at out next e) h in
      let texts = text_parts image.constants c (texts_in_statement e) (texts_in_block rest) t in
      λ stack s store st.
      then_ _ _ (statement_runs call context env e c at out next built.0 cuts.0 texts.0 stack s store st) (λ flow s1 store1 st1.
      then_rest flow stack s1 store1 _ st1 (block_runs call context env rest l middle out next built.1 cuts.1 texts.1 stack s1 store1 st1))
