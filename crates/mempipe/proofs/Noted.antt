-- An index that has noted one entry more.

use Rattle.std.proofs.Common.{◌≡◌, ◌<◌, ℕ, Bool, true, false, ◌&&◌, List, [], ◌∷◌, ◌++◌, Option, Some, None, refl, sym, ap, subst, ◌∙◌, length, nat_eq, arith}
use Rattle.std.specs.Prelude.{IsSome, option_and_then, if◌then◌else◌}
use Rattle.std.proofs.lemmas.Bool.{eqb-true}
use Rattle.job_calls.specs.declared.call.Call.{Call}
use Rattle.job_calls.specs.declared.call.Call.TheVariants.{Run as Begin}
use Rattle.job_calls.specs.declared.call.Way.TheVariants.{Reads, Writes}
use Rattle.job_calls.specs.declared.reply.Reply.{Reply}
use Rattle.job_calls.specs.declared.reply.Reply.TheVariants.{Started}
use Rattle.job_calls.specs.declared.entry.Entry.{Entry}
use Rattle.job_calls.specs.Entries.{is_run, is_finish}
use Rattle.job_calls.specs.Runs.{Start, last_of, start_by, start_of_run}
use Rattle.job_calls.specs.Models.{parent_of}
use Rattle.job_calls.specs.Pipes.{opens, opened_session}
use Rattle.growing_lists.specs.Growing.{last_given-snoc, last_place-snoc}
use Rattle.mempipe.specs.declared.ends.Ends.{Ends}
use Rattle.mempipe.specs.States.{hold_of, ends_after}
use Rattle.mempipe.specs.Index.{AreEndsOf, IsOrderly, holder_by, last_finish, run_told}
use Rattle.mempipe.proofs.Answered.{false_true}
use Rattle.mempipe.proofs.Fair.{IsFair}
use Rattle.mempipe.proofs.Holders.{holder_noted, since_noted, hold_is, holds_noted}
use Rattle.mempipe.proofs.Sessions.{session-snoc, joined-snoc, had_noted, later_noted}
use Rattle.mempipe.proofs.Flows.{untaken_noted, few_noted, flows_noted}

-- the ends of a pipe
pub ends_noted : (name : List ℕ) (ends : Ends) (place : ℕ) (journal : List Entry) (e : Entry) → place ≡ length journal → IsOrderly name journal
    → AreEndsOf ends name journal → AreEndsOf (ends_after name place ends e) name (journal ++ e ∷ [])
ends_noted name ends place journal e here orderly are =
    subst (λ n. AreEndsOf (ends_after name n ends e) name (journal ++ e ∷ [])) (sym here) (record {
      holders = λ way. ap (holder_by (λ k. last_finish k (journal ++ e ∷ []))) (hold_is way name (length journal) ends e)
          ∙ holder_noted way name (hold_of way ends) journal e (are.since way) (are.holders way);
      since = λ way hold q. since_noted way name (hold_of way ends) journal e hold (are.since way) (sym (hold_is way name (length journal) ends e) ∙ q);
      session = ap (λ o. if opens Reads name e then Some (length journal) else o) are.session ∙ sym (session-snoc name journal e);
      joined = ap (λ o. last_of o (opened_session Writes name e.call e.reply)) are.joined ∙ sym (joined-snoc name journal e);
      had_writer = had_noted name journal e ends.had_writer ends.session (orderly.later (length journal) (omega arith)) are.had_writer are.session;
    })

-- the order of a pipe
pub orderly_noted : (name : List ℕ) (journal : List Entry) (e : Entry) → IsFair journal e → IsOrderly name journal → IsOrderly name (journal ++ e ∷ [])
orderly_noted name journal e fair orderly =
    record {
      later = λ place less. later_noted name journal e place less (fair.opens Writes name) orderly.later;
      few = few_noted name journal e orderly.few (fair.puts name) (untaken_noted name journal e orderly.flows (fair.puts name));
      flows = flows_noted name journal e orderly.flows (fair.takes name);
      holds = λ way run. holds_noted way name run journal e (fair.opens way name) (orderly.holds way run);
    }

-- when a run last finished
pub finish_noted : (k : ℕ) (journal : List Entry) (e : Entry) (place : ℕ) (before after : Option ℕ) → place ≡ length journal → before ≡ last_finish k journal
    → after ≡ (if is_run k e.run && is_finish e.call then Some place else before) → after ≡ last_finish k (journal ++ e ∷ [])
finish_noted k journal e place before after here was is =
    is
    ∙ ap (λ n. if is_run k e.run && is_finish e.call then Some n else before) here
    ∙ ap (λ o. if is_run k e.run && is_finish e.call then Some (length journal) else o) was
    ∙ sym (last_place-snoc (λ (x : Entry). is_run k x.run && is_finish x.call) journal e)

-- the parent that an entry gives a run
abbrev parent_by : ℕ → Option ℕ → Call → Reply → Option ℕ
parent_by k run call reply =
    option_and_then (λ (s : Start). s.parent) (option_and_then (λ (s : Start). if nat_eq s.run k then Some s else None) (start_by run call reply))

some_start : (b : Bool) (s : Start) → IsSome (option_and_then (λ (s : Start). s.parent) (if b then Some s else None)) → b ≡ true
some_start true s is = refl
some_start false s is = absurd (false_true is)

-- it is told of
told_start : (k : ℕ) (run : Option ℕ) (call : Call) (reply : Reply) → IsSome (parent_by k run call reply) → run_told run call reply ≡ Some k
told_start k (Some caller) (Begin model params) (Started run) is = ap Some (eqb-true run k (some_start (nat_eq run k) _ is))
told_start k None (Begin model params) (Started run) is = ap Some (eqb-true run k (some_start (nat_eq run k) _ is))
told_start k run call reply is = absurd (false_true is)

either : (a b : Option ℕ) (P : Type 0) → IsSome (last_of a b) → (IsSome a → P) → (IsSome b → P) → P
either a None P is first second = first is
either a (Some x) P is first second = second refl

-- a run that was started has its room
pub started_noted : (k : ℕ) (journal : List Entry) (e : Entry) (n : ℕ) → (IsSome (parent_of k journal) → k < n) → (run_told e.run e.call e.reply ≡ Some k → k < n)
    → IsSome (parent_of k (journal ++ e ∷ [])) → k < n
started_noted k journal e n before told is =
    either (parent_of k journal) (parent_by k e.run e.call e.reply) (k < n)
    (subst IsSome (last_given-snoc (λ (x : Entry). option_and_then (λ (s : Start). s.parent) (start_of_run k x)) journal e) is)
    before (λ now. told (told_start k e.run e.call e.reply now))
