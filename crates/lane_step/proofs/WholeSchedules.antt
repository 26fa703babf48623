-- The journal of the one-thread schedule is whole: no lane quits, each run ends, each lane is told last.

use Rattle.std.proofs.Common.{◌≡◌, ◌≤◌, ◌<◌, ◌≢◌, ℕ, ◌+◌, ◌-◌, zero, suc, Bool, true, false, ◌&&◌, ◌||◌, not, List, [], ◌∷◌, Some, None, refl, sym, ap, ◌∙◌, subst, nat_eq, map, ne_eqb, inl, inr, arith}
use Rattle.std.specs.Prelude.{filter, if◌then◌else◌, ◌⊎◌}
use Rattle.std.specs.List.{list_any, fold}
use Rattle.std.proofs.lemmas.Bool.Decides.{eqb_tells}
use Rattle.job_calls.specs.declared.end.End.{End}
use Rattle.job_calls.specs.declared.end.End.TheVariants.{Code, Fault, Spent, Stopped, NoMemory}
use Rattle.job_calls.specs.declared.entry.Entry.{Entry}
use Rattle.job_calls.specs.Entries.{is_run, is_quit, is_finish, is_started, own_entries, has_quit, run_count, is_finished}
use Rattle.job_calls.specs.Runs.{Opening, acts_of, calls_of, replies_of, finish, finish_of, last_given, last_of}
use Rattle.job_calls.specs.Legal.{CanOpen}
use Rattle.lane_step.specs.Schedule.{open_entry, claim_entry, finish_entry, done_entry, done_entries, schedule_of}
use Rattle.job_laws.specs.Lanes.{EndsDone}
use Rattle.lane_step.specs.Alone.{IsOwnEnd}
use Rattle.lane_step.specs.Whole.{IsWhole, HadMemory}
use Rattle.lane_step.proofs.Legality.{is_legal}

-- what holds of none of the last entries
dones_none : (test : Entry → Bool) → ((lane : ℕ) → test (done_entry lane) ≡ false) → (lane many : ℕ) → list_any test (done_entries lane many) ≡ false
dones_none test h lane zero = ap (λ b. b || false) (h 0)
dones_none test h lane (suc many) = ap (λ b. b || list_any test (done_entries (lane + 1) many)) (h lane) ∙ dones_none test h (lane + 1) many

dones_kept : (test : Entry → Bool) → ((lane : ℕ) → test (done_entry lane) ≡ false) → (lane many : ℕ) → filter test (done_entries lane many) ≡ []
dones_kept test h lane zero = ap (λ b. if b then done_entry 0 ∷ [] else []) (h 0)
dones_kept test h lane (suc many) =
    ap (λ b. if b then done_entry lane ∷ filter test (done_entries (lane + 1) many) else filter test (done_entries (lane + 1) many)) (h lane)
    ∙ dones_kept test h (lane + 1) many

no_starts : (lane many n : ℕ) → fold (λ (a : ℕ) (e : Entry). a + (if is_started e.reply then 1 else 0)) n (done_entries lane many) ≡ n
no_starts lane zero n = omega arith
no_starts lane (suc many) n = let e : n + 0 ≡ n = omega arith in
    ap (λ m. fold (λ (a : ℕ) (e : Entry). a + (if is_started e.reply then 1 else 0)) m (done_entries (lane + 1) many)) e ∙ no_starts (lane + 1) many n

pub one_run : (o : Opening) (end : End) → run_count (schedule_of o end) ≡ 1
one_run o end = ap (λ n. n + 1) (no_starts 1 (o.lanes - 1) 0)

no_finish : (lane many : ℕ) → last_given (λ (e : Entry). if is_run 0 e.run then finish e.call else None) (done_entries lane many) ≡ None
no_finish lane zero = refl
no_finish lane (suc many) = ap (last_of None) (no_finish (lane + 1) many)

pub finish_is : (o : Opening) (end : End) → finish_of 0 (schedule_of o end) ≡ Some end
finish_is o end = ap (λ rest. last_of None (last_of None (last_of (Some end) rest))) (no_finish 1 (o.lanes - 1))

-- no other run has an end
other_finish : (run lane many : ℕ) → last_given (λ (e : Entry). if is_run run e.run then finish e.call else None) (done_entries lane many) ≡ None
other_finish run lane zero = refl
other_finish run lane (suc many) = ap (last_of None) (other_finish run (lane + 1) many)

no_other : (o : Opening) (end : End) (run : ℕ) → finish_of (suc run) (schedule_of o end) ≡ None
no_other o end run =
    ap (λ b. last_of None (last_of None (last_of (if b then Some end else None) (last_given (λ (e : Entry). if is_run (suc run) e.run then finish e.call else None) (done_entries 1 (o.lanes - 1)))))) (ne_eqb 0 (suc run) (λ e. absurd cc))
    ∙ ap (λ rest. last_of None (last_of None (last_of None rest))) (other_finish (suc run) 1 (o.lanes - 1))

-- an end of its own is not that of a run without memory
not_lacking : (end : End) → IsOwnEnd end → end ≢ NoMemory
not_lacking (Code code) own same = absurd cc
not_lacking (Fault kind) own same = absurd cc
not_lacking Spent own same = absurd cc
not_lacking Stopped own same = absurd own
not_lacking NoMemory own same = absurd own

pub had_memory : (o : Opening) (end : End) → IsOwnEnd end → HadMemory (schedule_of o end)
had_memory o end own zero lacks =
    let same : Some end ≡ Some NoMemory = sym (finish_is o end) ∙ lacks in not_lacking end own cc
had_memory o end own (suc run) lacks =
    let none : None ≡ Some NoMemory = sym (no_other o end run) ∙ lacks in absurd cc

no_acts : (o : Opening) (end : End) → acts_of 0 (schedule_of o end) ≡ []
no_acts o end = dones_kept (λ (e : Entry). is_run 0 e.run && not (is_finish e.call)) (λ lane. refl) 1 (o.lanes - 1)

pub no_calls : (o : Opening) (end : End) → calls_of 0 (schedule_of o end) ≡ []
no_calls o end = ap (map (λ (e : Entry). e.call)) (no_acts o end)

pub no_replies : (o : Opening) (end : End) → replies_of 0 (schedule_of o end) ≡ []
no_replies o end = ap (map (λ (e : Entry). e.reply)) (no_acts o end)

no_quit : (o : Opening) (end : End) → has_quit (schedule_of o end) ≡ false
no_quit o end = dones_none (λ (e : Entry). is_quit e.call) (λ lane. refl) 1 (o.lanes - 1)

-- the entries of a lane among the last
own_past : (lane from many : ℕ) → lane < from → 1 ≤ lane → own_entries lane (done_entries from many) ≡ []
own_past lane from zero less some = ap (λ b. if b then done_entry 0 ∷ [] else []) (ne_eqb 0 lane (λ e. absurd (omega arith)))
own_past lane from (suc many) less some =
    ap (λ b. if b then done_entry from ∷ own_entries lane (done_entries (from + 1) many) else own_entries lane (done_entries (from + 1) many)) (ne_eqb from lane (λ e. absurd (omega arith)))
    ∙ own_past lane (from + 1) many (omega arith) some

own_one : (lane from many : ℕ) → from ≤ lane → lane < from + many → 1 ≤ from → own_entries lane (done_entries from many) ≡ done_entry lane ∷ []
own_one lane from zero less more some = absurd (omega arith)
own_one lane from (suc many) less more some =
    at (eqb_tells from lane) (λ above. own_one lane (from + 1) many above (omega arith) (omega arith))
  where
    at : ((nat_eq from lane ≡ true) × (from ≡ lane)) ⊎ ((nat_eq from lane ≡ false) × (from ≢ lane))
        → (from + 1 ≤ lane → own_entries lane (done_entries (from + 1) many) ≡ done_entry lane ∷ [])
        → own_entries lane (done_entries from (suc many)) ≡ done_entry lane ∷ []
    at (inl h) later_on =
        ap (λ b. if b then done_entry from ∷ own_entries lane (done_entries (from + 1) many) else own_entries lane (done_entries (from + 1) many)) h.0
        ∙ ap (λ rest. done_entry from ∷ rest) (own_past lane (from + 1) many (let e = h.1 in omega arith) (omega arith))
        ∙ ap (λ l. done_entry l ∷ []) h.1
    at (inr h) later_on =
        ap (λ b. if b then done_entry from ∷ own_entries lane (done_entries (from + 1) many) else own_entries lane (done_entries (from + 1) many)) h.0
        ∙ later_on (let n = h.1 in omega arith)

own_zero : (from many : ℕ) → 1 ≤ from → own_entries 0 (done_entries from many) ≡ done_entry 0 ∷ []
own_zero from zero some = refl
own_zero from (suc many) some =
    ap (λ b. if b then done_entry from ∷ own_entries 0 (done_entries (from + 1) many) else own_entries 0 (done_entries (from + 1) many)) (ne_eqb from 0 (λ e. absurd (omega arith)))
    ∙ own_zero (from + 1) many (omega arith)

ends_done : (o : Opening) (end : End) (lane : ℕ) → 1 ≤ o.lanes → lane < o.lanes → EndsDone (own_entries lane (schedule_of o end))
ends_done o end zero some less =
    subst (λ (es : List Entry). EndsDone (open_entry o ∷ claim_entry o.params ∷ finish_entry end ∷ es)) (sym (own_zero 1 (o.lanes - 1) (omega arith))) (refl, refl)
ends_done o end (suc lane) some less =
    let apart : nat_eq 0 (suc lane) ≡ false = ne_eqb 0 (suc lane) (λ e. absurd (omega arith)) in
    let rest : List Entry = own_entries (suc lane) (done_entries 1 (o.lanes - 1)) in
    let e : own_entries (suc lane) (schedule_of o end) ≡ done_entry (suc lane) ∷ [] =
    ap (λ b. if b then open_entry o ∷ (if b then claim_entry o.params ∷ (if b then finish_entry end ∷ rest else rest) else (if b then finish_entry end ∷ rest else rest)) else (if b then claim_entry o.params ∷ (if b then finish_entry end ∷ rest else rest) else (if b then finish_entry end ∷ rest else rest))) apart
    ∙ own_one (suc lane) 1 (o.lanes - 1) (omega arith) (omega arith) (omega arith) in
    subst EndsDone (sym e) (refl, refl)

only_zero : (o : Opening) (end : End) (run : ℕ) → run < run_count (schedule_of o end) → is_finished run (schedule_of o end) ≡ true
only_zero o end zero less = refl
only_zero o end (suc run) less = let e = one_run o end in absurd (omega arith)

pub is_whole : (o : Opening) (end : End) → CanOpen o → IsWhole o (schedule_of o end)
is_whole o end can = record {
  legal = is_legal o end can;
  opened = refl;
  no_quit = no_quit o end;
  all_finished = only_zero o end;
  all_done = λ lane less. ends_done o end lane can.some_lane less;
}
