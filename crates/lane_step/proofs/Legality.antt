-- The journal of the one-thread schedule is legal and whole.

use Rattle.std.proofs.Common.{◌≡◌, ◌≤◌, ◌<◌, ◌≢◌, ℕ, ◌+◌, ◌-◌, zero, suc, true, false, not, ◌&&◌, ◌||◌, List, [], ◌∷◌, ◌++◌, Some, None, refl, sym, ap, ◌∙◌, subst, nat_eq, nat_lt, append-nil, ne_eqb, arith}
use Rattle.std.specs.Prelude.{count_by, is_some, if◌then◌else◌, IsTrue}
use Rattle.std.proofs.lemmas.List.Folds.{list_any-append}
use Rattle.std.proofs.lemmas.List.Elements.{filter-append}
use Rattle.std.proofs.lemmas.Bool.{lt-ltb}
use Rattle.std.proofs.lemmas.List.Sums.{fold-append}
use Rattle.job_calls.specs.declared.end.End.{End}
use Rattle.job_calls.specs.declared.entry.Entry.{Entry}
use Rattle.job_calls.specs.declared.reply.Answer.TheVariants.{Ready, NotYet, Shut}
use Rattle.job_calls.specs.declared.reply.Reply.TheVariants.{Done}
use Rattle.job_calls.specs.declared.call.Call.TheVariants.{Claim}
use Rattle.job_calls.specs.Entries.{is_run, is_quit, is_finish, is_started, claims, own_entries, has_quit, run_count, is_claimed, is_finished, unclaimed_run, first_unclaimed}
use Rattle.job_calls.specs.Runs.{Opening, opening}
use Rattle.job_calls.specs.Answers.{claim_answer, next_run}
use Rattle.job_calls.specs.Fitting.{fits, below_lanes, held_run, was_done}
use Rattle.job_calls.specs.Legal.{CanOpen, IsLegal, Follows, FollowOn}
use Rattle.lane_step.specs.Schedule.{open_entry, claim_entry, finish_entry, done_entry, done_entries, schedule_of}

-- run 0 has ended, and there is no other run
pub record IsEnded (o : Opening) (before : List Entry) : Type 0 where
  pub opened_by : opening before ≡ Some o
  pub no_quit : has_quit before ≡ false
  pub claimed_0 : is_claimed 0 before ≡ true
  pub finished_0 : is_finished 0 before ≡ true
  pub one_run : run_count before ≡ 1

count_same : (lane : ℕ) (es : List Entry) → run_count (es ++ done_entry lane ∷ []) ≡ run_count es
count_same lane es =
    let e : count_by (λ (e : Entry). is_started e.reply) (es ++ done_entry lane ∷ []) ≡ count_by (λ (e : Entry). is_started e.reply) es + 0 =
    fold-append _ 0 es (done_entry lane ∷ []) in
    omega (arith, e)

opened_more : (o : Opening) (lane : ℕ) (es : List Entry) → opening es ≡ Some o → opening (es ++ done_entry lane ∷ []) ≡ Some o
opened_more o lane [] q = cc
opened_more o lane (e ∷ es) q = q

-- one more lane that is told so changes none of it
ended_more : (o : Opening) (before : List Entry) (lane : ℕ) → IsEnded o before → IsEnded o (before ++ done_entry lane ∷ [])
ended_more o before lane h = record {
  opened_by = opened_more o lane before h.opened_by;
  no_quit = list_any-append (λ (e : Entry). is_quit e.call) before (done_entry lane ∷ []) ∙ ap (λ b. b || false) h.no_quit;
  claimed_0 = list_any-append (λ (e : Entry). claims 0 e.reply) before (done_entry lane ∷ []) ∙ ap (λ b. b || false) h.claimed_0;
  finished_0 = list_any-append (λ (e : Entry). is_run 0 e.run && is_finish e.call) before (done_entry lane ∷ []) ∙ ap (λ b. b || false) h.finished_0;
  one_run = count_same lane before ∙ h.one_run;
}

-- a lane that holds nothing and was not told that the job is done
pub record IsFree (before : List Entry) (lane : ℕ) : Type 0 where
  pub holds_none : held_run (own_entries lane before) ≡ None
  pub not_done : was_done (own_entries lane before) ≡ false

free_by : (before : List Entry) (lane : ℕ) → own_entries lane before ≡ [] → IsFree before lane
free_by before lane e = record { holds_none = ap held_run e; not_done = ap was_done e }

-- it is told so now
lane_done : (o : Opening) (before : List Entry) (lane : ℕ) → IsEnded o before → IsFree before lane → lane < o.lanes
    → Follows before (done_entry lane)
lane_done o before lane h free less =
    let below : below_lanes lane (opening before) ≡ true = ap (below_lanes lane) h.opened_by ∙ lt-ltb lane o.lanes less in
    let fit : fits (opening before) (own_entries lane before) lane None Claim ≡ true =
    ap (λ b. b && (not (is_some (held_run (own_entries lane before))) && not (was_done (own_entries lane before)))) below
    ∙ ap (λ held. not (is_some held) && not (was_done (own_entries lane before))) free.holds_none
    ∙ ap not free.not_done in
    let none : unclaimed_run before ≡ None =
    ap (first_unclaimed before 0) h.one_run ∙ ap (λ b. if b then first_unclaimed before 1 0 else Some 0) h.claimed_0 in
    record {
      fit = subst IsTrue (sym fit) refl;
      answered =
          ap (λ b. if b then Shut else claim_answer before lane) h.no_quit
          ∙ ap (λ b. if not b && not (nat_eq lane 0) then NotYet else next_run before (unclaimed_run before)) h.claimed_0
          ∙ ap (next_run before) none
          ∙ ap (λ b. if b then Ready Done else NotYet) h.finished_0;
    }

-- the entries of another lane do not count
own_other : (lane other : ℕ) (before : List Entry) → other ≢ lane → own_entries lane (before ++ done_entry other ∷ []) ≡ own_entries lane before
own_other lane other before apart =
    filter-append (λ (e : Entry). nat_eq e.lane lane) before (done_entry other ∷ [])
    ∙ ap (λ b. own_entries lane before ++ (if b then done_entry other ∷ [] else [])) (ne_eqb other lane apart)
    ∙ append-nil (own_entries lane before)

follow_dones : (o : Opening) (before : List Entry) (lane many : ℕ) → IsEnded o before
    → 1 ≤ lane → lane + many ≡ o.lanes
    → ((l : ℕ) → lane ≤ l → own_entries l before ≡ []) → IsFree before 0 → FollowOn before (done_entries lane many)
follow_dones o before lane zero h some all none free = (lane_done o before 0 h free (omega arith), tt)
follow_dones o before lane (suc many) h some all none free = (
  lane_done o before lane h (free_by before lane (none lane (omega arith))) (omega arith),
  follow_dones o (before ++ done_entry lane ∷ []) (lane + 1) many (ended_more o before lane h) (omega arith) (omega arith)
      (λ l less. own_other l lane before (λ e. absurd (omega arith)) ∙ none l (omega arith))
      (record {
        holds_none = ap held_run (own_other 0 lane before (λ e. absurd (omega arith))) ∙ free.holds_none;
        not_done = ap was_done (own_other 0 lane before (λ e. absurd (omega arith))) ∙ free.not_done;
      }),
)

-- the entries up to the end of run 0
abbrev head : Opening → End → List Entry
head o end = open_entry o ∷ claim_entry o.params ∷ finish_entry end ∷ []

head_ended : (o : Opening) (end : End) → IsEnded o (head o end)
head_ended o end = record { opened_by = refl; no_quit = refl; claimed_0 = refl; finished_0 = refl; one_run = refl }

-- no lane but lane 0 has an entry there
head_own : (o : Opening) (end : End) (lane : ℕ) → 1 ≤ lane → own_entries lane (head o end) ≡ []
head_own o end lane some =
    let apart : nat_eq 0 lane ≡ false = ne_eqb 0 lane (λ e. absurd (omega arith)) in
    ap (λ b. if b then open_entry o ∷ (if b then claim_entry o.params ∷ (if b then finish_entry end ∷ [] else []) else (if b then finish_entry end ∷ [] else [])) else (if b then claim_entry o.params ∷ (if b then finish_entry end ∷ [] else []) else (if b then finish_entry end ∷ [] else []))) apart

pub is_legal : (o : Opening) (end : End) → CanOpen o → IsLegal (schedule_of o end)
is_legal o end can =
    let below : nat_lt 0 o.lanes ≡ true = lt-ltb 0 o.lanes (omega (arith, can.some_lane)) in (
      record { lane = refl; run = refl; opened = can; reply = refl },
      (
        record { fit = subst IsTrue (sym (ap (λ b. b && true) below)) refl; answered = refl },
        (
          record { fit = subst IsTrue (sym (ap (λ b. b && true) below)) refl; answered = refl },
          follow_dones o (head o end) 1 (o.lanes - 1) (head_ended o end) (omega arith) (omega (arith, can.some_lane))
              (λ l less. head_own o end l less)
              (record { holds_none = refl; not_done = refl }),
        ),
      ),
    )
