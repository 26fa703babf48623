-- Output, answered calls and ticks grow, within what the world gives.

use Rattle.std.proofs.Common.{◌≡◌, ◌≤◌, ◌<◌, ℕ, ◌+◌, zero, suc, Bool, true, false, List, [], ◌∷◌, ◌++◌, length, Option, Some, None, refl, sym, ap, ◌∙◌, subst, slice_get, nat_le, nat_lt, drop, append_assoc, append-nil, length-append, arith}
use Rattle.std.proofs.lemmas.Option.{slice_get_within}
use Rattle.job_calls.specs.declared.reply.Reply.TheVariants as reply
use Rattle.std.specs.Prelude.{if◌then◌else◌}
use Rattle.std.proofs.lemmas.Bool.Decides.{nat_tests}
use Rattle.mos_text.specs.declared.fault_kind.FaultKind.TheVariants.{OutFull}
use Rattle.job_calls.specs.declared.call.Call.{Call}
use Rattle.job_calls.specs.declared.reply.Reply.{Reply}
use Rattle.bim_code.specs.declared.image.Image.{Image}
use Rattle.bim_code.specs.declared.image.Routine.{Routine}
use Rattle.bim_code.specs.declared.instruction.Instruction.{Instruction}
use Rattle.bim_code.specs.Code.{instruction_at}
use Rattle.mos_value.specs.Values.{Value, Operand}
use Rattle.run_state.specs.Stops.{Stop, Exited, Failed, Spent, Stopped, Asking, Stuck, Lost}
use Rattle.run_state.specs.State.{World, State, Counts, with_counts, on_drawn, tick, tick_if, Yields, StopsWith, write}
use Rattle.run_state.specs.Calls.{Query, Once, UntilEnd, Answer, Replied, Drained, stop_by, with_call, reply_or_stop, drawn_reply, as_answer, Piece, Part, Last, NoPiece, piece_in, drawn_bytes, drawn_piece, drain, inquire}
use Rattle.run_state.specs.Places.{Argument}
use Rattle.bim_machine.specs.Machine.{Machine, At, Halted, Work, Caller, Here, OwnStop, Exits, Fails, Sticks, stop_of, Site, Act, On, Jumps, Stops, Puts, Prints, Ticks, Asks, Enters, Leaves, on_evaluation, store_step, begins, begins_routine, enters, work_behind, resumes, leaves, settle}
use Rattle.bim_machine.specs.Instructions.{act}
use Rattle.bim_machine.specs.Courses.{Progress, site_of, step_by, step, run}
use Rattle.bim_machine.proofs.Runs.{run_over}
use Rattle.bim_machine.specs.Laws.{IsPrefix, Grows, state_in}

whole_prefix : {A : Type 0} (xs : List A) → IsPrefix xs xs
whole_prefix xs = record { rest = []; is = sym (append-nil xs) }

longer_prefix : {A : Type 0} (xs ys : List A) → IsPrefix xs (xs ++ ys)
longer_prefix xs ys = record { rest = ys; is = refl }

prefix_prefix : {A : Type 0} (xs ys zs : List A) → IsPrefix xs ys → IsPrefix ys zs → IsPrefix xs zs
prefix_prefix xs ys zs p q = record {
  rest = p.rest ++ q.rest;
  is = q.is ∙ ap (λ l. l ++ q.rest) p.is ∙ append_assoc xs p.rest q.rest;
}

-- what is over since it asks has no reply left
abbrev pub Asked : World → Machine → Type 0
Asked w (At address work here s) = Unit {0}
Asked w (Halted (Asking call) address s) = length w.replies ≤ length s.counts.calls
Asked w (Halted (Exited code) address s) = Unit {0}
Asked w (Halted (Failed kind) address s) = Unit {0}
Asked w (Halted Spent address s) = Unit {0}
Asked w (Halted Stopped address s) = Unit {0}
Asked w (Halted Stuck address s) = Unit {0}
Asked w (Halted Lost address s) = Unit {0}

-- a machine later than a state
pub record Later (w : World) (before : State) (m : Machine) : Type 0 where
  pub grows : Grows before (state_in m)
  pub within : before.counts.ticks ≤ w.budget → (state_in m).counts.ticks ≤ w.budget
  pub answered : length before.counts.calls ≤ length w.replies → length (state_in m).counts.calls ≤ length w.replies
  pub asked : Asked w m

-- the same but for the store
stays : (w : World) (s : State) (m : Machine) → (state_in m).memory.output ≡ s.memory.output → (state_in m).counts ≡ s.counts → Asked w m → Later w s m
stays w s m o e asked = record {
  grows = record {
    output = subst (λ (l : List ℕ). IsPrefix s.memory.output l) (sym o) (whole_prefix s.memory.output);
    calls = subst (λ (c : Counts). IsPrefix s.counts.calls c.calls) (sym e) (whole_prefix s.counts.calls);
    ticks = subst (λ (c : Counts). s.counts.ticks ≤ c.ticks) (sym e) (omega arith);
  };
  within = λ h. subst (λ (c : Counts). c.ticks ≤ w.budget) (sym e) h;
  answered = λ h. subst (λ (c : Counts). length c.calls ≤ length w.replies) (sym e) h;
  asked = asked;
}

-- one later than the other
then_later : (w : World) (s s1 : State) (m : Machine) → Grows s s1 → (s.counts.ticks ≤ w.budget → s1.counts.ticks ≤ w.budget)
    → (length s.counts.calls ≤ length w.replies → length s1.counts.calls ≤ length w.replies) → Later w s1 m → Later w s m
then_later w s s1 m grows within answered later =
    let one = grows.ticks in
    let two = later.grows.ticks in record {
      grows = record {
        output = prefix_prefix s.memory.output s1.memory.output (state_in m).memory.output grows.output later.grows.output;
        calls = prefix_prefix s.counts.calls s1.counts.calls (state_in m).counts.calls grows.calls later.grows.calls;
        ticks = omega (arith, one, two);
      };
      within = λ h. later.within (within h);
      answered = λ h. later.answered (answered h);
      asked = later.asked;
    }

tick_later : (w : World) (at : ℕ) (s : State) (go : Unit {0} → State → Machine)
    → ((s1 : State) → Later w s1 (go tt s1)) → Later w s (on_evaluation at (on_drawn (tick w s.counts) s) go)
tick_later w at s go h = tested (nat_lt s.counts.ticks w.budget) refl
  where
    tested : (b : Bool) → nat_lt s.counts.ticks w.budget ≡ b → Later w s (on_evaluation at (on_drawn (tick_if b s.counts) s) go)
    tested true e =
        let s1 : State = with_counts (record s.counts { ticks = s.counts.ticks + 1 }) s in
        then_later w s s1 _ (record { output = whole_prefix s.memory.output; calls = whole_prefix s.counts.calls; ticks = omega arith })
        (λ f. grind (arith, nat_tests, e)) (λ f. f) (h s1)
    tested false e = stays w s _ refl refl tt

-- what a reply makes the run stop with is no call that is asked
abbrev AskedBy : World → ℕ → State → Option Stop → Type 0
AskedBy w at s None = Unit {0}
AskedBy w at s (Some stop) = Asked w (Halted stop at s)

never_asked : (w : World) (at : ℕ) (s : State) (r : Reply) → AskedBy w at s (stop_by r)
never_asked w at s reply.Halt = tt
never_asked w at s (reply.Fault kind) = tt
never_asked w at s _ = tt

-- where no reply is found there are no more
get_none : (all : List Reply) (n : ℕ) → slice_get all n ≡ None → length all ≤ n
get_none [] n e = omega arith
get_none (r ∷ rs) zero e = cc
get_none (r ∷ rs) (suc n) e = let h = get_none rs n e in omega (arith, h)

-- the replies behind those that were taken
drop_none : (all : List Reply) (n : ℕ) → drop n all ≡ [] → length all ≤ n
drop_none [] n e = omega arith
drop_none (r ∷ rs) zero e = cc
drop_none (r ∷ rs) (suc n) e = let h = drop_none rs n e in omega (arith, h)

drop_next : (all : List Reply) (n : ℕ) (r : Reply) (rs : List Reply) → drop n all ≡ r ∷ rs → (n < length all) × (drop (suc n) all ≡ rs)
drop_next [] zero r rs e = cc
drop_next [] (suc n) r rs e = cc
drop_next (q ∷ qs) zero r rs e = let same : qs ≡ rs = cc in (omega arith, same)
drop_next (q ∷ qs) (suc n) r rs e = let h = drop_next qs n r rs e in let less = h.0 in (omega (arith, less), h.1)

-- one call more, which had a reply
call_later : (w : World) (call : Call) (s : State) (m : Machine) → length s.counts.calls < length w.replies → Later w (with_counts (with_call call s.counts) s) m → Later w s m
call_later w call s m some k =
    then_later w s (with_counts (with_call call s.counts) s) m (record { output = whole_prefix s.memory.output; calls = longer_prefix s.counts.calls (call ∷ []); ticks = omega arith })
    (λ f. f) (λ f. let l : length (s.counts.calls ++ call ∷ []) ≡ length s.counts.calls + 1 = omega (arith, length-append s.counts.calls (call ∷ [])) in omega (arith, l, some)) k

drain_later : (w : World) (at : ℕ) (call : Call) (rs : List Reply) (sofar : List ℕ) (counts : Counts) (s : State) (go : Answer → State → Machine) → drop (length counts.calls) w.replies ≡ rs
    → ((answer : Answer) (s1 : State) → Later w s1 (go answer s1)) → Later w (with_counts counts s) (on_evaluation at (on_drawn (drain call rs sofar counts) s) go)
drain_later w at call [] sofar counts s go e h = stays w (with_counts counts s) _ refl refl (drop_none w.replies (length counts.calls) e)
drain_later w at call (r ∷ rs) sofar counts s go e h =
    let next = drop_next w.replies (length counts.calls) r rs e in
    let l : length (counts.calls ++ call ∷ []) ≡ suc (length counts.calls) = omega (arith, length-append counts.calls (call ∷ [])) in
    let rest : drop (length (counts.calls ++ call ∷ [])) w.replies ≡ rs = ap (λ n. drop n w.replies) l ∙ next.1 in
    call_later w call (with_counts counts s) _ next.0
    (by_reply (stop_by r) refl (piece_in r) (λ bytes. drain_later w at call rs bytes (with_call call counts) s go rest h))
  where
    fitting : (b : Bool) (bytes : List ℕ) → Later w (with_counts (with_call call counts) s) (on_evaluation at (on_drawn (drain call rs bytes (with_call call counts)) s) go)
        → Later w (with_counts (with_call call counts) s) (on_evaluation at (on_drawn (drawn_bytes b bytes (with_call call counts) (drain call rs)) s) go)
    fitting true bytes later = later
    fitting false bytes later = stays w (with_counts (with_call call counts) s) _ refl refl tt

    by_reply : (o : Option Stop) → stop_by r ≡ o → (piece : Piece)
        → ((bytes : List ℕ) → Later w (with_counts (with_call call counts) s) (on_evaluation at (on_drawn (drain call rs bytes (with_call call counts)) s) go))
        → Later w (with_counts (with_call call counts) s) (on_evaluation at (on_drawn (drawn_piece o piece sofar (with_call call counts) (drain call rs)) s) go)
    by_reply (Some stop) e piece later = stays w (with_counts (with_call call counts) s) _ refl refl (subst (AskedBy w at (with_counts (with_call call counts) s)) e (never_asked w at _ r))
    by_reply None e (Part bytes) later = fitting (nat_le (length (sofar ++ bytes)) 1048576) (sofar ++ bytes) (later (sofar ++ bytes))
    by_reply None e Last later = h (Drained sofar) (with_counts (with_call call counts) s)
    by_reply None e NoPiece later = stays w (with_counts (with_call call counts) s) _ refl refl tt

ask_later : (w : World) (at : ℕ) (query : Query) (s : State) (go : Answer → State → Machine)
    → ((answer : Answer) (s1 : State) → Later w s1 (go answer s1)) → Later w s (on_evaluation at (on_drawn (inquire w query s.counts) s) go)
ask_later w at (Once call) s go h = found (slice_get w.replies (length s.counts.calls)) refl
  where
    answered : (r : Reply) → slice_get w.replies (length s.counts.calls) ≡ Some r → (o : Option Stop) → stop_by r ≡ o
        → Later w s (on_evaluation at (on_drawn (as_answer (reply_or_stop o r (with_call call s.counts))) s) go)
    answered r some None e = call_later w call s _ (slice_get_within w.replies (length s.counts.calls) r some) (h (Replied r) (with_counts (with_call call s.counts) s))
    answered r some (Some stop) e =
        call_later w call s _ (slice_get_within w.replies (length s.counts.calls) r some) (stays w (with_counts (with_call call s.counts) s) _ refl refl (subst (AskedBy w at (with_counts (with_call call s.counts) s)) e (never_asked w at _ r)))

    found : (o : Option Reply) → slice_get w.replies (length s.counts.calls) ≡ o → Later w s (on_evaluation at (on_drawn (as_answer (drawn_reply o call s.counts)) s) go)
    found None e = stays w s _ refl refl (get_none w.replies (length s.counts.calls) e)
    found (Some r) e = answered r e (stop_by r) refl
ask_later w at (UntilEnd call) s go h = drain_later w at call (drop (length s.counts.calls) w.replies) [] s.counts s go refl h

write_later : (w : World) (at : ℕ) (text : List ℕ) (s : State) (go : Unit {0} → State → Machine)
    → ((s1 : State) → Later w s1 (go tt s1)) → Later w s (on_evaluation at (write text s) go)
write_later w at text s go h = tested (nat_le (length s.memory.output + length text) 1048576)
  where
    tested : (b : Bool) → Later w s (on_evaluation at (if b then Yields tt (record s { memory = record s.memory { output = s.memory.output ++ text } }) else StopsWith (Failed OutFull) None s) go)
    tested true =
        then_later w s (record s { memory = record s.memory { output = s.memory.output ++ text } }) _
        (record { output = longer_prefix s.memory.output text; calls = whole_prefix s.counts.calls; ticks = omega arith })
        (λ f. f) (λ f. f) (h (record s { memory = record s.memory { output = s.memory.output ++ text } }))
    tested false = stays w s _ refl refl tt

halted : (w : World) (halt : OwnStop) (at : ℕ) (s : State) → Later w s (Halted (stop_of halt) at s)
halted w (Exits code) at s = stays w s _ refl refl tt
halted w (Fails kind) at s = stays w s _ refl refl tt
halted w Sticks at s = stays w s _ refl refl tt

stored_later : (w : World) (store : Option (List (List Value))) (work : Work) (site : Site) (here : Here) (s : State) → Later w s (store_step store work site here s)
stored_later w None work site here s = stays w s _ refl refl tt
stored_later w (Some store) work site here s = stays w s _ refl refl tt

enters_later : (image : Image) (w : World) (deep : Bool) (number : ℕ) (work : Work) (site : Site) (here : Here) (s : State) → Later w s (enters deep image number work site here s)
enters_later image w false number work site here s = stays w s _ refl refl tt
enters_later image w true number work site here s = entered (slice_get image.routines number)
  where
    begun : (routine : Routine) (given : Option (List Argument × List Operand)) (others : Option (List Value)) → Later w s (begins given others routine work site here s)
    begun routine None others = stays w s _ refl refl tt
    begun routine (Some one) None = stays w s _ refl refl tt
    begun routine (Some (given, stack)) (Some others) = stays w s _ refl refl tt

    entered : (o : Option Routine) → Later w s (begins_routine image o work site here s)
    entered None = stays w s _ refl refl tt
    entered (Some routine) = begun routine _ _

leaves_later : (w : World) (callers : List Caller) (result : Option Value) (site : Site) (here : Here) (s : State) → Later w s (leaves callers result site here s)
leaves_later w [] result site here s = stays w s _ refl refl tt
leaves_later w (caller ∷ callers) result site here s = resumed (work_behind caller.awaits_value result caller.work)
  where
    resumed : (o : Option Work) → Later w s (resumes o caller callers site here s)
    resumed None = stays w s _ refl refl tt
    resumed (Some work) = stays w s _ refl refl tt

settle_later : (image : Image) (w : World) (a : Act) (site : Site) (here : Here) (s : State) → Later w s (settle image w a site here s)
settle_later image w (On work) site here s = stays w s _ refl refl tt
settle_later image w (Jumps work) site here s = stays w s _ refl refl tt
settle_later image w (Stops halt) site here s = halted w halt site.at s
settle_later image w (Puts values work) site here s = stored_later w _ work site here s
settle_later image w (Prints text work) site here s = write_later w site.at text s _ (λ s1. stays w s1 _ refl refl tt)
settle_later image w (Ticks a) site here s = tick_later w site.at s _ (λ s1. settle_later image w a site here s1)
settle_later image w (Asks query go) site here s = ask_later w site.at query s _ (λ answer s1. settle_later image w (go answer) site here s1)
settle_later image w (Enters number work) site here s = tick_later w site.at s _ (λ s1. enters_later image w _ number work site here s1)
settle_later image w (Leaves result) site here s = leaves_later w here.callers result site here s

decoded_later : (image : Image) (w : World) (found : Option Instruction) (address : ℕ) (work : Work) (here : Here) (s : State) → Later w s (step_by image w found address work here s)
decoded_later image w None address work here s = stays w s _ refl refl tt
decoded_later image w (Some i) address work here s = settle_later image w (act image i here.slots work s.memory.store) (site_of i address) here s

-- after any number of steps
pub run_later : (image : Image) (w : World) (n steps address : ℕ) (work : Work) (here : Here) (s : State) → Later w s (run image w n steps (At address work here s)).machine
run_later image w zero steps address work here s = stays w s _ refl refl tt
run_later image w (suc n) steps address work here s =
    once (step image w address work here s) (decoded_later image w (instruction_at image.code address) address work here s) (run_later image w n (steps + 1))
  where
    once : (m : Machine) → Later w s m → ((a : ℕ) (v : Work) (h : Here) (t : State) → Later w t (run image w n (steps + 1) (At a v h t)).machine)
        → Later w s (run image w n (steps + 1) m).machine
    once (At a v h t) one more = then_later w s t _ one.grows one.within one.answered (more a v h t)
    once (Halted stop a t) one more = subst (λ (p : Progress). Later w s p.machine) (sym (run_over image w n (steps + 1) stop a t)) one

pub all_grows : (image : Image) (w : World) (n steps : ℕ) (m : Machine) → Grows (state_in m) (state_in (run image w n steps m).machine)
all_grows image w n steps (At address work here s) = (run_later image w n steps address work here s).grows
all_grows image w n steps (Halted stop address s) =
    subst (λ (p : Progress). Grows s (state_in p.machine)) (sym (run_over image w n steps stop address s))
    (record { output = whole_prefix s.memory.output; calls = whole_prefix s.counts.calls; ticks = omega arith })
