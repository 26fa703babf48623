-- Which calls start a run, and which run that is.

use Rattle.std.proofs.Common.{◌≡◌, ℕ, Bool, true, false, not, ◌&&◌, ◌||◌, List, Option, Some, None, refl, sym, ap, ◌∙◌, subst, true≢false}
use Rattle.std.specs.Prelude.{IsTrue, nat_lt, nat_eq, length, if◌then◌else◌}
use Rattle.mos_text.specs.declared.fault_kind.FaultKind.TheVariants as kind
use Rattle.job_calls.specs.declared.call.Call.{Call}
use Rattle.job_calls.specs.declared.call.Call.TheVariants.{Open, Claim, Quit, Finish, Run}
use Rattle.job_calls.specs.declared.reply.Answer.{Answer}
use Rattle.job_calls.specs.declared.reply.Answer.TheVariants.{Ready, NotYet, Shut}
use Rattle.job_calls.specs.declared.reply.Reply.{Reply}
use Rattle.job_calls.specs.declared.reply.Reply.TheVariants.{Started, Done, Halt, Unit as UnitReply}
use Rattle.job_calls.specs.declared.entry.Entry.{Entry}
use Rattle.job_calls.specs.Answers.{answer_of, answer_to_run, run_answer, is_full, fault, give_run, next_run as given_run, claim_answer}
use Rattle.job_calls.specs.Entries.{is_started, run_count, own_entries, has_quit, is_claimed, is_finished, unclaimed_run}
use Rattle.job_calls.specs.Files.{lanes_of}
use Rattle.job_calls.specs.Fitting.{fits, call_fits}
use Rattle.job_calls.specs.Models.{is_asked, is_loaded, current_run, is_live_run, live_runs}
use Rattle.job_calls.specs.Replies.{InRange, can_answer, ends_run, may_end_run}
use Rattle.job_calls.specs.Runs.{opening, source_of, params_of}
use Rattle.job_laws.specs.Lanes.{AnswersFit}
use Rattle.hub_core.specs.Keeping.{OnlyRunsStart}
use Rattle.hub_core.proofs.Pushed.{fits_run}

-- a run that the answer starts has this number
abbrev pub StartsNext : ℕ → Answer → Type 0
StartsNext n (Ready (Started run)) = run ≡ n
StartsNext n answer = Unit {0}

next_if : (n : ℕ) (b : Bool) (x y : Answer) → StartsNext n x → StartsNext n y → StartsNext n (if b then x else y)
next_if n true x y a c = a
next_if n false x y a c = c

next_answer : (journal : List Entry) (model : ℕ) → StartsNext (run_count journal) (run_answer journal model)
next_answer journal model =
    let n = run_count journal in
    let started = Ready (Started n) in
    let lanes = if not (nat_lt (length (live_runs journal)) (lanes_of journal)) then fault kind.NoLane else started in
    let runs = if not (nat_lt n 4096) then fault kind.TooManyRuns else lanes in
    let busy = if is_live_run (current_run model journal) journal then fault kind.Busy else runs in
    next_if n (not (is_loaded model journal)) (fault kind.NotLoaded) busy tt
    (next_if n (is_live_run (current_run model journal) journal) (fault kind.Busy) runs tt
    (next_if n (not (nat_lt n 4096)) (fault kind.TooManyRuns) lanes tt
    (next_if n (not (nat_lt (length (live_runs journal)) (lanes_of journal))) (fault kind.NoLane) started tt refl)))

next_run : (journal : List Entry) (run : Option ℕ) (model : ℕ) (params : List ℕ) → StartsNext (run_count journal) (answer_to_run journal run (Run model params))
next_run journal None model params = tt
next_run journal (Some k) model params =
    let n = run_count journal in
    next_if n (is_asked k journal) (Ready Halt) (if is_full journal (Run model params) then fault kind.HubFull else run_answer journal model) tt
    (next_if n (is_full journal (Run model params)) (fault kind.HubFull) (run_answer journal model) tt (next_answer journal model))

-- a run that is started gets the next number
starts_next : (journal : List Entry) (lane : ℕ) (run : Option ℕ) (model : ℕ) (params : List ℕ) (k : ℕ)
    → answer_of journal lane run (Run model params) ≡ Ready (Started k) → k ≡ run_count journal
starts_next journal lane run model params k answered =
    subst (StartsNext (run_count journal)) answered
    (next_if (run_count journal) (has_quit journal) Shut (answer_to_run journal run (Run model params)) tt (next_run journal run model params))

-- the same of a call and its reply
pub next_starts : (journal : List Entry) (lane : ℕ) (run : Option ℕ) (call : Call) (reply : Reply) → answer_of journal lane run call ≡ Ready reply
    → (model : ℕ) (params : List ℕ) (k : ℕ) → call ≡ Run model params → reply ≡ Started k → k ≡ run_count journal
next_starts journal lane run call reply answered model params k call_is reply_is =
    starts_next journal lane run model params k (ap (λ c. answer_of journal lane run c) (sym call_is) ∙ answered ∙ ap Ready reply_is)

by_table : (call : Call) (reply : Reply) → IsTrue (can_answer call reply || (may_end_run call && ends_run reply)) → OnlyRunsStart call reply
by_table (Run model params) reply can = tt
by_table call (Started run) can = absurd (true≢false (sym can))
by_table call reply can = refl

abbrev reply_in : Answer → Reply
reply_in (Ready reply) = reply
reply_in answer = Halt

unit_or_shut : (b : Bool) (reply : Reply) → (if b then Shut else Ready UnitReply) ≡ Ready reply → is_started reply ≡ false
unit_or_shut true reply e = sym (ap (λ a. is_started (reply_in a)) e)
unit_or_shut false reply e = sym (ap (λ a. is_started (reply_in a)) e)

-- the answer starts no run
abbrev starts_none : Answer → Bool
starts_none (Ready reply) = not (is_started reply)
starts_none answer = true

none_if : (b : Bool) (x y : Answer) → starts_none x ≡ true → starts_none y ≡ true → starts_none (if b then x else y) ≡ true
none_if true x y one other = one
none_if false x y one other = other

none_given : (k : ℕ) (source : Option ℕ) (params : Option (List ℕ)) → starts_none (give_run k source params) ≡ true
none_given k (Some source) (Some params) = refl
none_given k (Some source) None = refl
none_given k None params = refl

none_next : (journal : List Entry) (run : Option ℕ) → starts_none (given_run journal run) ≡ true
none_next journal (Some k) = none_given k (source_of k journal) (params_of k journal)
none_next journal None = none_if (is_finished 0 journal) (Ready Done) NotYet refl refl

not_true : (b : Bool) → not b ≡ true → b ≡ false
not_true true e = sym e
not_true false e = refl

claim_starts_none : (journal : List Entry) (lane : ℕ) (run : Option ℕ) (reply : Reply) → answer_of journal lane run Claim ≡ Ready reply → is_started reply ≡ false
claim_starts_none journal lane run reply answered =
    not_true (is_started reply) (sym (ap starts_none answered)
    ∙ none_if (has_quit journal) Shut (claim_answer journal lane) refl
    (none_if (not (is_claimed 0 journal) && not (nat_eq lane 0)) NotYet (given_run journal (unclaimed_run journal)) refl
    (none_next journal (unclaimed_run journal))))

-- no call but `Run` starts a run
pub only_runs : AnswersFit → (journal : List Entry) (lane : ℕ) (run : Option ℕ) (call : Call) (reply : Reply) → InRange reply
    → answer_of journal lane run call ≡ Ready reply → IsTrue (fits (opening journal) (own_entries lane journal) lane run call)
    → OnlyRunsStart call reply
only_runs fit journal lane run Claim reply range answered may = claim_starts_none journal lane run reply answered
only_runs fit journal lane run Quit reply range answered may = unit_or_shut (has_quit journal) reply answered
only_runs fit journal lane run (Finish end) reply range answered may = unit_or_shut (has_quit journal) reply answered
only_runs fit journal lane run (Open lanes budget params files) reply range answered may = absurd (not_open run (and_second _ _ may)) where
  and_second : (a b : Bool) → (a && b) ≡ true → b ≡ true
  and_second true b both = both
  and_second false b both = absurd (true≢false (sym both))

  not_open : (run : Option ℕ) → call_fits (own_entries lane journal) run (Open lanes budget params files) ≡ true → ⊥
  not_open None e = true≢false (sym e)
  not_open (Some k) e = true≢false (sym e)
only_runs fit journal lane run call reply range answered may =
    by_table call reply (fits_run fit journal lane run call reply range answered may refl refl).0
