-- A reply that the hub gives to a call of a run fits it.

use Rattle.std.proofs.Common.{◌≡◌, ℕ, Bool, true, false, not, ◌&&◌, List, [], ◌∷◌, ◌++◌, Some, refl, sym, ap, ◌∙◌, subst, cond, map}
use Rattle.std.specs.Prelude.{All}
use Rattle.std.proofs.lemmas.List.Elements.{All-head, All-tail}
use Rattle.job_calls.specs.declared.call.Call.{Call}
use Rattle.job_calls.specs.declared.call.Call.TheVariants.{Open, Claim, Quit, Finish}
use Rattle.job_calls.specs.declared.reply.Answer.TheVariants.{Ready}
use Rattle.job_calls.specs.declared.reply.Reply.{Reply}
use Rattle.job_calls.specs.declared.entry.Entry.{Entry}
use Rattle.job_calls.specs.Entries.{is_run, is_finish, own_entries, has_quit}
use Rattle.job_calls.specs.Runs.{opening, acts_of, calls_of, replies_of}
use Rattle.job_calls.specs.Replies.{InRange, CanAnswer, AllCanAnswer}
use Rattle.job_calls.specs.Answers.{open_answer, answer_of}
use Rattle.job_calls.specs.Fitting.{is_for_lane, run_fits, call_fits, below_lanes}
use Rattle.job_calls.specs.Legal.{IsLegal, Follows, FollowOn}
use Rattle.job_laws.proofs.Outcomes.{Outcome, run_outcome, can_fit, false_true}
use Rattle.job_laws.proofs.Entering.{open_not, and_true, not_true, is_run-some}

open_outcome : (log : List Entry) (lane run : ℕ) (call : Call) (reply : Reply) → open_answer log lane (Some run) call ≡ Ready reply
    → is_for_lane call ≡ false → is_finish call ≡ false → Outcome log run call reply
open_outcome log lane run (Open lanes budget params files) reply e a b = absurd (false_true (sym a))
open_outcome log lane run Claim reply e a b = absurd (false_true (sym a))
open_outcome log lane run Quit reply e a b = absurd (false_true (sym a))
open_outcome log lane run (Finish end) reply e a b = absurd (false_true (sym b))
open_outcome log lane run call reply e a b = run_outcome log run call reply e

pub answers_fit : (log : List Entry) (lane run : ℕ) (call : Call) (reply : Reply) → answer_of log lane (Some run) call ≡ Ready reply
    → is_for_lane call ≡ false → is_finish call ≡ false → InRange reply → CanAnswer call reply
answers_fit log lane run call reply e a b r =
    let opened = (open_not (has_quit log) (open_answer log lane (Some run) call) reply e).1 in
    can_fit log run call reply (open_outcome log lane run call reply opened a b) a b r

-- an entry that follows and is an act of a run has a reply that fits
act_fits : (log : List Entry) (e : Entry) (k : ℕ) → Follows log e → (is_run k e.run && not (is_finish e.call)) ≡ true → InRange e.reply
    → CanAnswer e.call e.reply
act_fits log e k f is r =
    let both = and_true (is_run k e.run) (not (is_finish e.call)) is in
    let own = own_entries e.lane log in
    let by_run = is_run-some k e.run both.0 in
    let fit = (and_true (below_lanes e.lane (opening log)) (call_fits own e.run e.call) f.fit).1 in
    let for_run = (and_true (not (is_for_lane e.call)) (run_fits own k e.call) (subst (λ run. call_fits own run e.call ≡ true) by_run fit)).0 in
    answers_fit log e.lane k e.call e.reply (ap (λ run. answer_of log e.lane run e.call) (sym by_run) ∙ f.answered)
    (not_true (is_for_lane e.call) for_run) (not_true (is_finish e.call) both.1) r

runs_fit_by : (k : ℕ) (e : Entry) (es : List Entry) (b : Bool) → (b ≡ true → CanAnswer e.call e.reply) → AllCanAnswer (calls_of k es) (replies_of k es)
    → AllCanAnswer (map (λ (x : Entry). x.call) (cond b (e ∷ acts_of k es) (acts_of k es))) (map (λ (x : Entry). x.reply) (cond b (e ∷ acts_of k es) (acts_of k es)))
runs_fit_by k e es true fits rest = (fits refl, rest)
runs_fit_by k e es false fits rest = rest

runs_fit_on : (k : ℕ) (log es : List Entry) → FollowOn log es → All (λ (e : Entry). InRange e.reply) es → AllCanAnswer (calls_of k es) (replies_of k es)
runs_fit_on k log [] f all = tt
runs_fit_on k log (e ∷ es) f all =
    runs_fit_by k e es (is_run k e.run && not (is_finish e.call))
    (λ is. act_fits log e k f.0 is (All-head (λ (x : Entry). InRange x.reply) e es all))
    (runs_fit_on k (log ++ e ∷ []) es f.1 (All-tail (λ (x : Entry). InRange x.reply) e es all))

pub runs_fit : (journal : List Entry) → IsLegal journal → All (λ (e : Entry). InRange e.reply) journal → (k : ℕ)
    → AllCanAnswer (calls_of k journal) (replies_of k journal)
runs_fit [] h all k = absurd h
runs_fit (e ∷ es) h all k =
    let o = h.0 in
    runs_fit_by k e es (is_run k e.run && not (is_finish e.call))
    (λ is. absurd (false_true (sym (ap (λ run. is_run k run && not (is_finish e.call)) o.run) ∙ is)))
    (runs_fit_on k (e ∷ []) es h.1 (All-tail (λ (x : Entry). InRange x.reply) e es all))
