-- Where each lane was told that the job is done, each run was given to a lane and has finished.

use Rattle.std.proofs.Common.{◌≡◌, ◌≢◌, ◌≤◌, ◌<◌, ℕ, zero, suc, ◌+◌, Bool, true, false, ◌&&◌, ◌||◌, List, [], ◌∷◌, ◌++◌, Option, Some, None, refl, sym, ap, ◌∙◌, subst, inl, inr, ◌⊎◌, nat_eq, arith}
use Rattle.std.specs.Prelude.{if◌then◌else◌}
use Rattle.std.specs.List.{list_any}
use Rattle.std.proofs.lemmas.Bool.{eq-eqb, eqb-true}
use Rattle.std.proofs.lemmas.Bool.Decides.{eqb_tells}
use Rattle.job_calls.specs.declared.call.Call.{Call}
use Rattle.job_calls.specs.declared.reply.Answer.TheVariants.{Ready}
use Rattle.job_calls.specs.declared.reply.Reply.{Reply}
use Rattle.job_calls.specs.declared.entry.Entry.{Entry}
use Rattle.job_calls.specs.Moments.{moments}
use Rattle.job_calls.specs.Entries.{is_run, is_finish, is_claim, is_done, is_started, claims, own_entries, run_count, is_claimed, is_finished, first_unclaimed, unclaimed_run}
use Rattle.job_calls.specs.Files.{lanes_of}
use Rattle.job_calls.specs.Models.{asks}
use Rattle.job_calls.specs.Answers.{stop_rows, table_answer}
use Rattle.job_calls.specs.Fitting.{held_after, held_run}
use Rattle.job_calls.specs.Legal.{IsLegal, Follows}
use Rattle.job_laws.specs.Lanes.{EndsDone}
use Rattle.job_laws.proofs.Growing.{legal_grow}
use Rattle.job_laws.proofs.Lists.{none_some, some_is}
use Rattle.job_laws.proofs.Counts.{any-snoc, as_number}
use Rattle.job_laws.proofs.Outcomes.{run_outcome, by_rows, reply_of, false_true}
use Rattle.job_laws.proofs.Entering as enter
use Rattle.job_laws.proofs.Entering.{Entering, entering}
use Rattle.job_laws.proofs.Bound as bound
use Rattle.job_laws.proofs.Bound.{lanes_below, held-snoc, claimed-snoc, starts-snoc, or_yes, plain, not_given}
use Rattle.job_laws.proofs.Lanes.{either, own_grow, filtered_any, some_own}

-- a lane whose last entry says that the job is done
done_last : (own : List Entry) (e : Entry) → EndsDone (own ++ e ∷ []) → (is_claim e.call ≡ true) × (is_done e.reply ≡ true)
done_last [] e h = h
done_last (x ∷ []) e h = h
done_last (x ∷ y ∷ ys) e h = done_last (y ∷ ys) e h

done_any : (own : List Entry) → EndsDone own → list_any (λ (e : Entry). is_done e.reply) own ≡ true
done_any [] h = absurd h
done_any (x ∷ []) h = ap (λ b. b || false) h.1
done_any (x ∷ y ∷ ys) h = ap (λ b. is_done x.reply || b) (done_any (y ∷ ys) h) ∙ or_yes (is_done x.reply)

-- where the job is done nothing is left to be given
record IsDoneNow (log : List Entry) (lane : ℕ) (call : Call) (reply : Reply) : Type 0 where
  none : unclaimed_run log ≡ None
  ended : is_finished 0 log ≡ true
  free : held_after (held_run (own_entries lane log)) call reply ≡ None
  starts : is_started reply ≡ false

done_now : (log : List Entry) (lane : ℕ) (run : Option ℕ) (call : Call) (reply : Reply) → Entering log lane run call reply → is_done reply ≡ true
    → IsDoneNow log lane call reply
done_now log lane _ _ _ (enter.claims k source params none q s p) d = absurd (false_true d)
done_now log lane _ _ _ (enter.done_entry not_done none q is) d = record { none = q; ended = is; free = none; starts = refl }
done_now log lane _ _ _ enter.quits d = absurd (false_true d)
done_now log lane _ _ _ (enter.finishes run end held) d = absurd (false_true d)
done_now log lane _ _ _ (enter.acts run call reply held fresh fit for_run no_finish answered) d =
    absurd (false_true (sym (plain log run call reply (run_outcome log run call reply answered)).1 ∙ d))

-- a lane that came to its end holds no run
abbrev IsFreeAtEnd : List Entry → Type 0
IsFreeAtEnd own = EndsDone own → held_run own ≡ None

free_at_end : (l : ℕ) (journal : List Entry) → IsLegal journal → IsFreeAtEnd (own_entries l journal)
free_at_end = own_grow IsFreeAtEnd
    (λ h. absurd h)
    (λ e o h. absurd (false_true (sym (ap is_done o.reply) ∙ h.1)))
    (λ log e legal p f h.
    held-snoc (own_entries e.lane log) e
    ∙ (done_now log e.lane e.run e.call e.reply (entering log e f) (done_last (own_entries e.lane log) e h).1).free)

-- a run that was given to a lane has finished, or the lane holds it
abbrev EndsOrHolds : ℕ → List Entry → Type 0
EndsOrHolds k own = is_claimed k own ≡ true → (is_finished k own ≡ true) ⊎ (held_run own ≡ Some k)

finished-snoc : (k : ℕ) (own : List Entry) (e : Entry) → is_finished k (own ++ e ∷ []) ≡ (is_finished k own || (is_run k e.run && is_finish e.call))
finished-snoc k own e = any-snoc (λ (x : Entry). is_run k x.run && is_finish x.call) own e

-- what comes of a run that the lane holds, or that it is given
holds_on : (log : List Entry) (lane : ℕ) (run : Option ℕ) (call : Call) (reply : Reply) → Entering log lane run call reply → (k : ℕ)
    → held_run (own_entries lane log) ≡ Some k
    → ((is_run k run && is_finish call) ≡ true) ⊎ (held_after (held_run (own_entries lane log)) call reply ≡ Some k)
holds_on log lane _ _ _ (enter.claims r source params none q s p) k held = none_some k (sym none ∙ held)
holds_on log lane _ _ _ (enter.done_entry not_done none q is) k held = none_some k (sym none ∙ held)
holds_on log lane _ _ _ enter.quits k held = inr held
holds_on log lane _ _ _ (enter.finishes run end is) k held =
    inl (ap (λ b. b && true) (eq-eqb run k (some_is run k (sym is ∙ held))))
holds_on log lane _ _ _ (enter.acts run call reply is fresh fit for_run no_finish answered) k held =
    inr (bound.held_same (held_run (own_entries lane log)) call reply for_run no_finish ∙ held)

given_holds : (log : List Entry) (lane : ℕ) (run : Option ℕ) (call : Call) (reply : Reply) → Entering log lane run call reply → (k : ℕ)
    → claims k reply ≡ true → held_after (held_run (own_entries lane log)) call reply ≡ Some k
given_holds log lane _ _ _ (enter.claims r source params none q s p) k c = ap Some (eqb-true r k c)
given_holds log lane _ _ _ (enter.done_entry not_done none q is) k c = absurd (false_true c)
given_holds log lane _ _ _ enter.quits k c = absurd (false_true c)
given_holds log lane _ _ _ (enter.finishes run end is) k c = absurd (false_true c)
given_holds log lane _ _ _ (enter.acts run call reply is fresh fit for_run no_finish answered) k c =
    absurd (false_true (sym (not_given reply k (plain log run call reply (run_outcome log run call reply answered)).0) ∙ c))

ends_step : (k : ℕ) (log : List Entry) (e : Entry) → EndsOrHolds k (own_entries e.lane log) → Follows log e → EndsOrHolds k (own_entries e.lane log ++ e ∷ [])
ends_step k log e p f q =
    let own = own_entries e.lane log in
    let enters = entering log e f in
    elim (either (is_claimed k own) (claims k e.reply) (sym (claimed-snoc k own e) ∙ q)) [
      | inl w ↦ elim (p w) [
        | inl ended ↦ inl (finished-snoc k own e ∙ ap (λ b. b || (is_run k e.run && is_finish e.call)) ended)
        | inr held ↦ elim (holds_on log e.lane e.run e.call e.reply enters k held) [
          | inl now ↦ inl (finished-snoc k own e ∙ ap (λ b. is_finished k own || b) now ∙ or_yes (is_finished k own))
          | inr on ↦ inr (held-snoc own e ∙ on)
        ]
      ]
      | inr w ↦ inr (held-snoc own e ∙ given_holds log e.lane e.run e.call e.reply enters k w)
    ]

ends_or_holds : (k l : ℕ) (journal : List Entry) → IsLegal journal → EndsOrHolds k (own_entries l journal)
ends_or_holds k = own_grow (EndsOrHolds k)
    (λ q. absurd (false_true q))
    (λ e o q. absurd (false_true (sym (ap (λ r. claims k r || false) o.reply) ∙ q)))
    (λ log e h p f. ends_step k log e p f)

next_above : (n m : ℕ) → n ≤ m → n ≢ m → n + 1 ≤ m
next_above n m le apart =
    elim (eqb_tells n m) [
      | inl q ↦ absurd (apart q.1)
      | inr q ↦ let a = q.1 in omega (arith, le, a)
    ]

-- where no run is left all were given
none_left : (log : List Entry) (from many : ℕ) → first_unclaimed log from many ≡ None → (k : ℕ) → from ≤ k → k < from + many → is_claimed k log ≡ true
none_left log from zero e k le less = absurd (omega (arith, le, less))
none_left log from (suc many) e k le less = by (is_claimed from log) refl e (λ r l m. none_left log (from + 1) many r k l m) where
  by : (b : Bool) → is_claimed from log ≡ b → (if b then first_unclaimed log (from + 1) many else Some from) ≡ None
      → (first_unclaimed log (from + 1) many ≡ None → from + 1 ≤ k → k < from + 1 + many → is_claimed k log ≡ true) → is_claimed k log ≡ true
  by false is r go = none_some from (sym r)
  by true is r go =
      elim (eqb_tells from k) [
        | inl q ↦ subst (λ n. is_claimed n log ≡ true) q.1 is
        | inr q ↦ let a = q.1 in go r (next_above from k le a) (omega (arith, less))
      ]

-- once the master has ended no run is started
no_more : (log : List Entry) (lane : ℕ) (run : Option ℕ) (call : Call) (reply : Reply) → Entering log lane run call reply → is_finished 0 log ≡ true
    → is_started reply ≡ false
no_more log lane _ _ _ (enter.claims k source params none q s p) ended = refl
no_more log lane _ _ _ (enter.done_entry not_done none q is) ended = refl
no_more log lane _ _ _ enter.quits ended = refl
no_more log lane _ _ _ (enter.finishes run end held) ended = refl
no_more log lane _ _ _ (enter.acts run call reply held fresh fit for_run no_finish answered) ended =
    elim (by_rows (stop_rows log run call) (table_answer log run call) (Ready reply) answered) [
      | inl w ↦ ap is_started (sym (ap reply_of w.1))
      | inr w ↦ absurd (false_true (sym w.0 ∙ ap (λ b. b || list_any (asks run) (moments log)) ended))
    ]

-- from when a lane was told that the job is done, all runs have been given
abbrev AllGiven : List Entry → Type 0
AllGiven log = (is_finished 0 log ≡ true) × ((k : ℕ) → k < run_count log → is_claimed k log ≡ true)

abbrev IsDoneForGood : List Entry → Type 0
IsDoneForGood log = list_any (λ (e : Entry). is_done e.reply) log ≡ true → AllGiven log

given_more : (log : List Entry) (e : Entry) → AllGiven log → is_started e.reply ≡ false → AllGiven (log ++ e ∷ [])
given_more log e p none = (
  finished-snoc 0 log e ∙ ap (λ b. b || (is_run 0 e.run && is_finish e.call)) p.0,
  λ k less.
      let same : run_count (log ++ e ∷ []) ≡ run_count log + 0 = starts-snoc log e ∙ ap (λ b. run_count log + as_number b) none in
      claimed-snoc k log e ∙ ap (λ b. b || claims k e.reply) (p.1 k (omega (arith, less, same))),
)

done_step : (log : List Entry) (e : Entry) → IsDoneForGood log → Follows log e → IsDoneForGood (log ++ e ∷ [])
done_step log e p f q =
    let enters = entering log e f in
    elim (either (list_any (λ (x : Entry). is_done x.reply) log) (is_done e.reply) (sym (any-snoc (λ (x : Entry). is_done x.reply) log e) ∙ q)) [
      | inl w ↦ given_more log e (p w) (no_more log e.lane e.run e.call e.reply enters (p w).0)
      | inr w ↦
          let now = done_now log e.lane e.run e.call e.reply enters w in
          given_more log e (now.ended, λ k less. none_left log 0 (run_count log) now.none k (omega arith) (omega (arith, less))) now.starts
    ]

done_for_good : (journal : List Entry) → IsLegal journal → IsDoneForGood journal
done_for_good = legal_grow IsDoneForGood
    (λ e o q. absurd (false_true (sym (ap (λ r. is_done r || false) o.reply) ∙ q)))
    (λ log e h p f. done_step log e p f)

finished_by : (k : ℕ) (own : List Entry) → held_run own ≡ None → (is_finished k own ≡ true) ⊎ (held_run own ≡ Some k) → is_finished k own ≡ true
finished_by k own free h =
    elim h [
      | inl w ↦ w
      | inr w ↦ none_some k (sym free ∙ w)
    ]

pub all_end : (journal : List Entry) → IsLegal journal → ((lane : ℕ) → lane < lanes_of journal → EndsDone (own_entries lane journal))
    → (k : ℕ) → k < run_count journal → (is_claimed k journal ≡ true) × (is_finished k journal ≡ true)
all_end journal h ends k less =
    let below = lanes_below journal h in
    let is = below.lanes_is in
    let some = below.some in
    let first = done_any (own_entries 0 journal) (ends 0 (omega (arith, is, some))) in
    let given = (done_for_good journal h (filtered_any (λ (x : Entry). is_done x.reply) (λ (x : Entry). nat_eq x.lane 0) journal first)).1 k less in
    let lane = some_own (λ (x : Entry). claims k x.reply) below.lanes journal below.all given in
    let l = lane.1 in
    let free = free_at_end lane.0 journal h (ends lane.0 (omega (arith, is, l))) in (
      given,
      filtered_any (λ (x : Entry). is_run k x.run && is_finish x.call) (λ (x : Entry). nat_eq x.lane lane.0) journal
          (finished_by k (own_entries lane.0 journal) free (ends_or_holds k lane.0 journal h lane.2)),
    )
