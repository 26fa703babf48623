-- What an entry that follows a journal is: a call that fits, with the answer that is given.

use Rattle.std.proofs.Common.{◌≡◌, ℕ, Bool, true, false, not, ◌&&◌, ◌||◌, List, Option, Some, None, refl, sym, ap, subst, nat_eq}
use Rattle.std.specs.Prelude.{is_some, if◌then◌else◌}
use Rattle.std.proofs.lemmas.Bool.{eqb-true}
use Rattle.job_calls.specs.declared.call.Call.{Call}
use Rattle.job_calls.specs.declared.call.Call.TheVariants.{Open, Claim, Quit, Finish}
use Rattle.job_calls.specs.declared.end.End.{End}
use Rattle.job_calls.specs.declared.reply.Answer.{Answer}
use Rattle.job_calls.specs.declared.reply.Answer.TheVariants.{Ready, NotYet, Shut}
use Rattle.job_calls.specs.declared.reply.Reply.{Reply}
use Rattle.job_calls.specs.declared.reply.Reply.TheVariants.{Claimed, Done, Unit as UnitReply}
use Rattle.job_calls.specs.declared.entry.Entry.{Entry}
use Rattle.job_calls.specs.Entries.{is_run, is_finish, has_quit, is_claimed, is_finished, unclaimed_run, own_entries}
use Rattle.job_calls.specs.Runs.{opening, source_of, params_of}
use Rattle.job_calls.specs.Answers.{give_run, next_run, answer_to_run, open_answer}
use Rattle.job_calls.specs.Fitting.{held_run, was_done, exchange_of, is_over, ends_fit, may_call, is_for_lane, below_lanes, call_fits}
use Rattle.job_calls.specs.Legal.{Follows}
use Rattle.job_laws.proofs.Outcomes.{reply_of, false_true}

pub and_true : (a b : Bool) → (a && b) ≡ true → (a ≡ true) × (b ≡ true)
and_true true b e = (refl, e)
and_true false b e = absurd (false_true e)

pub or_false : (a b : Bool) → (a || b) ≡ false → (a ≡ false) × (b ≡ false)
or_false true b e = absurd (false_true (sym e))
or_false false b e = (refl, e)

pub is_run-some : (k : ℕ) (o : Option ℕ) → is_run k o ≡ true → o ≡ Some k
is_run-some k None e = absurd (false_true e)
is_run-some k (Some run) e = ap Some (eqb-true run k e)

-- an entry that a lane adds to the journal, by its run, call and reply
pub data Entering (log : List Entry) (lane : ℕ) : Option ℕ → Call → Reply → Type 0 where
  claims : (k source : ℕ) (params : List ℕ) → held_run (own_entries lane log) ≡ None → unclaimed_run log ≡ Some k
      → source_of k log ≡ Some source → params_of k log ≡ Some params → Entering log lane None Claim (Claimed k source params)
  done_entry : was_done (own_entries lane log) ≡ false → held_run (own_entries lane log) ≡ None → unclaimed_run log ≡ None
      → is_finished 0 log ≡ true → Entering log lane None Claim Done
  quits : Entering log lane None Quit UnitReply
  finishes : (run : ℕ) (end : End) → held_run (own_entries lane log) ≡ Some run → Entering log lane (Some run) (Finish end) UnitReply
  acts : (run : ℕ) (call : Call) (reply : Reply) → held_run (own_entries lane log) ≡ Some run → is_over (exchange_of run (own_entries lane log)) ≡ false
      → ends_fit (exchange_of run (own_entries lane log)) call ≡ true → is_for_lane call ≡ false → is_finish call ≡ false → answer_to_run log (Some run) call ≡ Ready reply → Entering log lane (Some run) call reply

pub not_true : (b : Bool) → not b ≡ true → b ≡ false
not_true true e = sym e
not_true false e = refl

none_some : {A : Type 0} (o : Option A) → is_some o ≡ false → o ≡ None
none_some None e = refl
none_some (Some x) e = absurd (false_true (sym e))

abbrev answers_at_all : Answer → Bool
answers_at_all (Ready reply) = true
answers_at_all _ = false

shut_ready : (reply : Reply) → Shut ≡ Ready reply → ⊥
shut_ready reply e = false_true (ap answers_at_all e)

pub open_not : (b : Bool) (a : Answer) (reply : Reply) → (if b then Shut else a) ≡ Ready reply → (b ≡ false) × (a ≡ Ready reply)
open_not true a reply e = absurd (shut_ready reply e)
open_not false a reply e = (refl, e)

not_yet_ready : (reply : Reply) → NotYet ≡ Ready reply → ⊥
not_yet_ready reply e = false_true (ap answers_at_all e)

not_yet_if : (b : Bool) (a : Answer) (reply : Reply) → (if b then NotYet else a) ≡ Ready reply → a ≡ Ready reply
not_yet_if true a reply e = absurd (not_yet_ready reply e)
not_yet_if false a reply e = e

done_by : (log : List Entry) (lane : ℕ) (b : Bool) (reply : Reply) → was_done (own_entries lane log) ≡ false → held_run (own_entries lane log) ≡ None
    → unclaimed_run log ≡ None → is_finished 0 log ≡ b → (if b then Ready Done else NotYet) ≡ Ready reply → Entering log lane None Claim reply
done_by log lane true reply not_done none q is e = subst (Entering log lane None Claim) (ap reply_of e) (done_entry not_done none q is)
done_by log lane false reply not_done none q is e = absurd (not_yet_ready reply e)

given_by : (log : List Entry) (lane k : ℕ) (source : Option ℕ) (params : Option (List ℕ)) (reply : Reply) → held_run (own_entries lane log) ≡ None
    → unclaimed_run log ≡ Some k → source_of k log ≡ source → params_of k log ≡ params → give_run k source params ≡ Ready reply
    → Entering log lane None Claim reply
given_by log lane k (Some source) (Some params) reply none q s p e =
    subst (Entering log lane None Claim) (ap reply_of e) (claims k source params none q s p)
given_by log lane k (Some source) None reply none q s p e = absurd (not_yet_ready reply e)
given_by log lane k None params reply none q s p e = absurd (not_yet_ready reply e)

claim_by : (log : List Entry) (lane : ℕ) (o : Option ℕ) (reply : Reply) → was_done (own_entries lane log) ≡ false → held_run (own_entries lane log) ≡ None
    → unclaimed_run log ≡ o → next_run log o ≡ Ready reply → Entering log lane None Claim reply
claim_by log lane None reply not_done none q e = done_by log lane (is_finished 0 log) reply not_done none q refl e
claim_by log lane (Some k) reply not_done none q e = given_by log lane k (source_of k log) (params_of k log) reply none q refl refl e

by_lane : (log : List Entry) (lane : ℕ) (call : Call) (reply : Reply) → call_fits (own_entries lane log) None call ≡ true
    → open_answer log lane None call ≡ Ready reply → Entering log lane None call reply
by_lane log lane Claim reply fit e =
    let both = and_true (not (is_some (held_run (own_entries lane log)))) (not (was_done (own_entries lane log))) fit in
    claim_by log lane (unclaimed_run log) reply (not_true _ both.1) (none_some _ (not_true _ both.0)) refl
    (not_yet_if (not (is_claimed 0 log) && not (nat_eq lane 0)) (next_run log (unclaimed_run log)) reply e)
by_lane log lane Quit reply fit e = subst (Entering log lane None Quit) (ap reply_of e) quits
by_lane log lane call reply fit e = absurd (false_true fit)

by_run_end : (log : List Entry) (lane run : ℕ) (end : End) (reply : Reply) → held_run (own_entries lane log) ≡ Some run
    → Ready UnitReply ≡ Ready reply → Entering log lane (Some run) (Finish end) reply
by_run_end log lane run end reply held e = subst (Entering log lane (Some run) (Finish end)) (ap reply_of e) (finishes run end held)

by_run : (log : List Entry) (lane run : ℕ) (call : Call) (reply : Reply) → call_fits (own_entries lane log) (Some run) call ≡ true
    → open_answer log lane (Some run) call ≡ Ready reply → Entering log lane (Some run) call reply
by_run log lane run (Open lanes budget params files) reply fit e = absurd (false_true fit)
by_run log lane run Claim reply fit e = absurd (false_true fit)
by_run log lane run Quit reply fit e = absurd (false_true fit)
by_run log lane run (Finish end) reply fit e =
    by_run_end log lane run end reply (is_run-some run _ (and_true (is_run run (held_run (own_entries lane log))) true fit).0) e
by_run log lane run call reply fit e =
    let told = exchange_of run (own_entries lane log) in
    let held = and_true (is_run run (held_run (own_entries lane log))) (may_call told call) fit in
    let goes_on = and_true (not (is_over told)) (ends_fit told call) held.1 in
    acts run call reply (is_run-some run _ held.0) (not_true _ goes_on.0) goes_on.1 refl refl e

by_caller : (log : List Entry) (lane : ℕ) (run : Option ℕ) (call : Call) (reply : Reply) → call_fits (own_entries lane log) run call ≡ true
    → open_answer log lane run call ≡ Ready reply → Entering log lane run call reply
by_caller log lane None call reply fit e = by_lane log lane call reply fit e
by_caller log lane (Some run) call reply fit e = by_run log lane run call reply fit e

-- what an entry that follows can be
pub entering : (log : List Entry) (e : Entry) → Follows log e → Entering log e.lane e.run e.call e.reply
entering log e f =
    by_caller log e.lane e.run e.call e.reply
    (and_true (below_lanes e.lane (opening log)) (call_fits (own_entries e.lane log) e.run e.call) f.fit).1
    (open_not (has_quit log) (open_answer log e.lane e.run e.call) e.reply f.answered).1

-- no journal goes on after a `Quit`
pub no_quit : (log : List Entry) (e : Entry) → Follows log e → has_quit log ≡ false
no_quit log e f = (open_not (has_quit log) (open_answer log e.lane e.run e.call) e.reply f.answered).0

pub is_below : (log : List Entry) (e : Entry) → Follows log e → below_lanes e.lane (opening log) ≡ true
is_below log e f = (and_true (below_lanes e.lane (opening log)) (call_fits (own_entries e.lane log) e.run e.call) f.fit).0
