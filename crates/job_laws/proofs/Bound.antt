-- A legal journal has fewer than 1,100,000 entries: behind the millionth each run is given once, is told to end once and
-- ends once, each lane is told once that the job is done, and the job is ended once.

use Rattle.std.proofs.Common.{◌≡◌, ◌≢◌, ◌≤◌, ◌<◌, ℕ, suc, zero, ◌+◌, Bool, true, false, not, ◌||◌, List, [], ◌∷◌, ◌++◌, Option, Some, None, refl, sym, ap, ◌∙◌, subst, inl, inr, ◌⊎◌, nat_eq, nat_lt, length, length-append, cond, arith}
use Rattle.std.specs.Prelude.{count_by, is_some, if◌then◌else◌}
use Rattle.std.proofs.lemmas.Bool.{eqb-true, lt-ltb, le-ltb, ltb-true, ltb-false, eqb-false}
use Rattle.std.proofs.lemmas.Bool.Decides.{eqb_tells}
use Rattle.std.proofs.lemmas.List.Sums.{fold-append}
use Rattle.job_calls.specs.declared.call.Call.{Call}
use Rattle.job_calls.specs.declared.call.Call.TheVariants.{Open, Claim, Quit, Finish}
use Rattle.job_calls.specs.declared.reply.Answer.TheVariants.{Ready}
use Rattle.job_calls.specs.declared.reply.Reply.{Reply}
use Rattle.job_calls.specs.declared.reply.Reply.TheVariants.{Opened, Claimed, Done, Started, Unit as UnitReply}
use Rattle.job_calls.specs.declared.entry.Entry.{Entry}
use Rattle.job_calls.specs.Entries.{is_run, is_quit, is_finish, is_started, claims, is_done, is_last, own_entries, run_count, is_claimed, first_unclaimed}
use Rattle.job_calls.specs.Runs.{Opening, opening, opening_of}
use Rattle.std.specs.Option.{option_map_or}
use Rattle.job_calls.specs.Files.{files_of, lanes_of}
use Rattle.job_calls.specs.Answers.{stop_rows, table_answer, is_full}
use Rattle.job_calls.specs.Fitting.{held_after, held_run, exchange_of, is_over, is_for_lane, below_lanes}
use Rattle.job_calls.specs.Legal.{IsLegal, IsOpening, OpensSo, Follows}
use Rattle.job_laws.specs.Growth.{is_given, GivenInOrder}
use Rattle.job_laws.proofs.Growing.{legal_induct}
use Rattle.job_laws.proofs.Lists.{none_some}
use Rattle.job_laws.proofs.Outcomes as outcome
use Rattle.job_laws.proofs.Outcomes.{Outcome, run_outcome, is_idle, false_true}
use Rattle.job_laws.proofs.Entering as enter
use Rattle.job_laws.proofs.Entering.{Entering, entering, no_quit, is_below, and_true}
use Rattle.job_laws.proofs.Counts.{as_number, count-snoc, any-snoc, AtMostOnce, once_more, once_same, total_le, total_same, AllBelow, AllBelow-snoc, count_parts, own-snoc-same, own-snoc-other, exchange-snoc, exchange-same, is_run-by, count_either}

-- what the table answers gives no run, and is not the end of the job
idle_plain : (reply : Reply) → is_idle reply ≡ true → (is_given reply ≡ false) × (is_done reply ≡ false) × (is_started reply ≡ false)
idle_plain (Claimed run source params) e = absurd (false_true e)
idle_plain Done e = absurd (false_true e)
idle_plain (Started run) e = absurd (false_true e)
idle_plain reply e = (refl, refl, refl)

pub plain : (log : List Entry) (run : ℕ) (call : Call) (reply : Reply) → Outcome log run call reply
    → (is_given reply ≡ false) × (is_done reply ≡ false) × ((is_started reply ≡ false) ⊎ (nat_lt (run_count log) 4096 ≡ true))
plain log run _ _ (outcome.idle call reply is can) = let p = idle_plain reply is in (p.0, p.1, inl p.2)
plain log run _ _ (outcome.granted call is) = (refl, refl, inl refl)
plain log run _ _ (outcome.compiled src dst) = (refl, refl, inl refl)
plain log run _ _ (outcome.loaded file source q) = (refl, refl, inl refl)
plain log run _ _ (outcome.started model params is less) = (refl, refl, inr less)
plain log run _ _ (outcome.next_took event q) = (refl, refl, inl refl)
plain log run _ _ (outcome.drop_took event q) = (refl, refl, inl refl)
plain log run _ _ (outcome.queued to class value receiver) = (refl, refl, inl refl)
plain log run _ _ (outcome.found_write name write q) = (refl, refl, inl refl)
plain log run _ _ (outcome.found_file name bytes q d) = (refl, refl, inl refl)
plain log run _ _ (outcome.reads name q) = (refl, refl, inl refl)
plain log run _ _ (outcome.joins name place a b d s) = (refl, refl, inl refl)
plain log run _ _ (outcome.put name bytes j) = (refl, refl, inl refl)
plain log run _ _ (outcome.took_all name) = (refl, refl, inl refl)
plain log run _ _ (outcome.ended name a b) = (refl, refl, inl refl)

pub not_given : (reply : Reply) (k : ℕ) → is_given reply ≡ false → claims k reply ≡ false
not_given (Claimed run source params) k e = absurd (false_true (sym e))
not_given reply k e = refl

-- the run that a lane holds may still be told to end
abbrev pub goes_on : Option ℕ → List Entry → ℕ
goes_on None own = 0
goes_on (Some run) own = as_number (not (is_over (exchange_of run own)))

-- what is true of the entries of each lane
pub record LaneCounts (own : List Entry) : Type 0 where
  pub ends : count_by (λ (e : Entry). is_finish e.call) own + as_number (is_some (held_run own)) ≤ count_by (λ (e : Entry). is_given e.reply) own
  pub lasts : count_by (λ (e : Entry). is_last e.reply) own + goes_on (held_run own) own ≤ count_by (λ (e : Entry). is_given e.reply) own
  pub dones : AtMostOnce (λ (e : Entry). is_done e.reply) own

pub held-snoc : (own : List Entry) (e : Entry) → held_run (own ++ e ∷ []) ≡ held_after (held_run own) e.call e.reply
held-snoc own e = fold-append (λ held (x : Entry). held_after held x.call x.reply) None own (e ∷ [])

pub held_same : (held : Option ℕ) (call : Call) (reply : Reply) → is_for_lane call ≡ false → is_finish call ≡ false → held_after held call reply ≡ held
held_same held Claim reply a b = absurd (false_true (sym a))
held_same held (Finish end) reply a b = absurd (false_true (sym b))
held_same held call reply a b = refl

small_number : (b : Bool) → as_number b ≤ 1
small_number true = omega arith
small_number false = omega arith

-- a held run goes on unless it is told to end now
over-snoc : (run : ℕ) (own : List Entry) (e : Entry) → is_over (exchange_of run own) ≡ false → e.run ≡ Some run
    → as_number (is_last e.reply) + as_number (not (is_over (exchange_of run (own ++ e ∷ [])))) ≡ as_number (not (is_over (exchange_of run own)))
over-snoc run own e fresh by =
    let told = exchange_of run own in
    let over : is_over (exchange_of run (own ++ e ∷ [])) ≡ is_last e.reply =
    ap is_over (exchange-snoc run own e (is_run-by run e.run by))
    ∙ any-snoc (λ (pair : Call × Reply). is_last pair.1) told (e.call, e.reply)
    ∙ ap (λ b. b || is_last e.reply) fresh in
    ap (λ b. as_number (is_last e.reply) + as_number (not b)) over
    ∙ halves (is_last e.reply)
    ∙ ap (λ b. as_number (not b)) (sym fresh)
  where
    halves : (b : Bool) → as_number b + as_number (not b) ≡ 1
    halves true = refl
    halves false = refl

abbrev pub fins : List Entry → ℕ
fins es = count_by (λ (e : Entry). is_finish e.call) es

abbrev pub gives : List Entry → ℕ
gives es = count_by (λ (e : Entry). is_given e.reply) es

abbrev pub lasts : List Entry → ℕ
lasts es = count_by (λ (e : Entry). is_last e.reply) es

abbrev pub dones : List Entry → ℕ
dones es = count_by (λ (e : Entry). is_done e.reply) es

goes_small : (o : Option ℕ) (own : List Entry) → goes_on o own ≤ 1
goes_small None own = omega arith
goes_small (Some run) own = small_number (not (is_over (exchange_of run own)))

fins-snoc : (own : List Entry) (e : Entry) → fins (own ++ e ∷ []) ≡ fins own + as_number (is_finish e.call)
fins-snoc own e = count-snoc (λ (x : Entry). is_finish x.call) own e

gives-snoc : (own : List Entry) (e : Entry) → gives (own ++ e ∷ []) ≡ gives own + as_number (is_given e.reply)
gives-snoc own e = count-snoc (λ (x : Entry). is_given x.reply) own e

lasts-snoc : (own : List Entry) (e : Entry) → lasts (own ++ e ∷ []) ≡ lasts own + as_number (is_last e.reply)
lasts-snoc own e = count-snoc (λ (x : Entry). is_last x.reply) own e

held_number : (own : List Entry) (o : Option ℕ) → held_run own ≡ o → as_number (is_some (held_run own)) ≡ as_number (is_some o)
held_number own o h = ap (λ held. as_number (is_some held)) h

goes_as : (own behind : List Entry) (o : Option ℕ) → held_run own ≡ o → goes_on (held_run own) behind ≡ goes_on o behind
goes_as own behind o h = ap (λ held. goes_on held behind) h

-- an entry of no run ends none
goes_past : (o : Option ℕ) (own : List Entry) (e : Entry) → e.run ≡ None → goes_on o (own ++ e ∷ []) ≡ goes_on o own
goes_past None own e none = refl
goes_past (Some run) own e none =
    ap (λ told. as_number (not (is_over told))) (exchange-same run own e (ap (is_run run) none))

lane_step : (log : List Entry) (lane : ℕ) (run : Option ℕ) (call : Call) (reply : Reply) → LaneCounts (own_entries lane log)
    → Entering log lane run call reply → LaneCounts (own_entries lane log ++ record { lane = lane; run = run; call = call; reply = reply } ∷ [])
lane_step log lane _ _ _ c (enter.claims k source params none q s p) =
    let own = own_entries lane log in
    let e : Entry = record { lane = lane; run = None; call = Claim; reply = Claimed k source params } in
    let f : fins (own ++ e ∷ []) ≡ fins own + 0 = fins-snoc own e in
    let g : gives (own ++ e ∷ []) ≡ gives own + 1 = gives-snoc own e in
    let l : lasts (own ++ e ∷ []) ≡ lasts own + 0 = lasts-snoc own e in
    let now : as_number (is_some (held_run (own ++ e ∷ []))) ≡ 1 = held_number (own ++ e ∷ []) (Some k) (held-snoc own e) in
    let was : as_number (is_some (held_run own)) ≡ 0 = held_number own None none in
    let small = goes_small (held_run (own ++ e ∷ [])) (own ++ e ∷ []) in
    let ends = c.ends in
    let lasts_ = c.lasts in
    record {
      ends = omega (arith, f, g, now, was, ends);
      lasts = omega (arith, g, l, small, lasts_);
      dones = once_same (λ (x : Entry). is_done x.reply) own e refl c.dones;
    }
lane_step log lane _ _ _ c (enter.done_entry not_done none q is) =
    let own = own_entries lane log in
    let e : Entry = record { lane = lane; run = None; call = Claim; reply = Done } in
    let f : fins (own ++ e ∷ []) ≡ fins own + 0 = fins-snoc own e in
    let g : gives (own ++ e ∷ []) ≡ gives own + 0 = gives-snoc own e in
    let l : lasts (own ++ e ∷ []) ≡ lasts own + 0 = lasts-snoc own e in
    let now : as_number (is_some (held_run (own ++ e ∷ []))) ≡ 0 = held_number (own ++ e ∷ []) None (held-snoc own e ∙ none) in
    let goes : goes_on (held_run (own ++ e ∷ [])) (own ++ e ∷ []) ≡ 0 = goes_as (own ++ e ∷ []) (own ++ e ∷ []) None (held-snoc own e ∙ none) in
    let ends = c.ends in
    let lasts_ = c.lasts in
    record {
      ends = omega (arith, f, g, now, ends);
      lasts = omega (arith, g, l, goes, lasts_);
      dones = once_more (λ (x : Entry). is_done x.reply) own e not_done c.dones;
    }
lane_step log lane _ _ _ c enter.quits =
    let own = own_entries lane log in
    let e : Entry = record { lane = lane; run = None; call = Quit; reply = UnitReply } in
    let f : fins (own ++ e ∷ []) ≡ fins own + 0 = fins-snoc own e in
    let g : gives (own ++ e ∷ []) ≡ gives own + 0 = gives-snoc own e in
    let l : lasts (own ++ e ∷ []) ≡ lasts own + 0 = lasts-snoc own e in
    let now = held_number (own ++ e ∷ []) (held_run own) (held-snoc own e) in
    let goes = goes_as (own ++ e ∷ []) (own ++ e ∷ []) (held_run own) (held-snoc own e) ∙ goes_past (held_run own) own e refl in
    let ends = c.ends in
    let lasts_ = c.lasts in
    record {
      ends = omega (arith, f, g, now, ends);
      lasts = omega (arith, g, l, goes, lasts_);
      dones = once_same (λ (x : Entry). is_done x.reply) own e refl c.dones;
    }
lane_step log lane _ _ _ c (enter.finishes run end held) =
    let own = own_entries lane log in
    let e : Entry = record { lane = lane; run = Some run; call = Finish end; reply = UnitReply } in
    let f : fins (own ++ e ∷ []) ≡ fins own + 1 = fins-snoc own e in
    let g : gives (own ++ e ∷ []) ≡ gives own + 0 = gives-snoc own e in
    let l : lasts (own ++ e ∷ []) ≡ lasts own + 0 = lasts-snoc own e in
    let now : as_number (is_some (held_run (own ++ e ∷ []))) ≡ 0 = held_number (own ++ e ∷ []) None (held-snoc own e) in
    let was : as_number (is_some (held_run own)) ≡ 1 = held_number own (Some run) held in
    let goes : goes_on (held_run (own ++ e ∷ [])) (own ++ e ∷ []) ≡ 0 = goes_as (own ++ e ∷ []) (own ++ e ∷ []) None (held-snoc own e) in
    let ends = c.ends in
    let lasts_ = c.lasts in
    record {
      ends = omega (arith, f, g, now, was, ends);
      lasts = omega (arith, g, l, goes, lasts_);
      dones = once_same (λ (x : Entry). is_done x.reply) own e refl c.dones;
    }
lane_step log lane _ _ _ c (enter.acts run call reply held fresh ends_fit_ for_run no_finish answered) =
    let own = own_entries lane log in
    let e : Entry = record { lane = lane; run = Some run; call = call; reply = reply } in
    let f : fins (own ++ e ∷ []) ≡ fins own + 0 = fins-snoc own e ∙ ap (λ b. fins own + as_number b) no_finish in
    let g : gives (own ++ e ∷ []) ≡ gives own + as_number (is_given reply) = gives-snoc own e in
    let l : lasts (own ++ e ∷ []) ≡ lasts own + as_number (is_last reply) = lasts-snoc own e in
    let same : held_run (own ++ e ∷ []) ≡ held_run own = held-snoc own e ∙ held_same (held_run own) call reply for_run no_finish in
    let now = held_number (own ++ e ∷ []) (held_run own) same in
    let goes = goes_as (own ++ e ∷ []) (own ++ e ∷ []) (Some run) (same ∙ held) in
    let went = goes_as own own (Some run) held in
    let over = over-snoc run own e fresh refl in
    let ends = c.ends in
    let lasts_ = c.lasts in
    record {
      ends = omega (arith, f, g, now, ends);
      lasts = omega (arith, g, l, goes, went, over, lasts_);
      dones = once_same (λ (x : Entry). is_done x.reply) own e (plain log run call reply (run_outcome log run call reply answered)).1 c.dones;
    }

-- an `Open` gives no run, ends none and tells nobody that the job is done
opens_only : (call : Call) → OpensSo (opening_of call) → (is_finish call ≡ false) × (is_quit call ≡ false) × (held_after None call Opened ≡ None)
opens_only (Open lanes budget params files) h = (refl, refl, refl)
opens_only Claim h = absurd h
opens_only Quit h = absurd h
opens_only (Finish end) h = absurd h
opens_only call h = absurd h

lane_none : LaneCounts []
lane_none = record { ends = omega arith; lasts = omega arith; dones = omega arith }

lane_first : (e : Entry) → IsOpening e → LaneCounts (e ∷ [])
lane_first e o =
    let only = opens_only e.call o.opened in
    let f : fins (e ∷ []) ≡ 0 = fins-snoc [] e ∙ ap (λ b. 0 + as_number b) only.0 in
    let l : lasts (e ∷ []) ≡ 0 = lasts-snoc [] e ∙ ap (λ r. 0 + as_number (is_last r)) o.reply in
    let held : held_run (e ∷ []) ≡ None = ap (λ r. held_after None e.call r) o.reply ∙ only.2 in
    let now : as_number (is_some (held_run (e ∷ []))) ≡ 0 = held_number (e ∷ []) None held in
    let goes : goes_on (held_run (e ∷ [])) (e ∷ []) ≡ 0 = goes_as (e ∷ []) (e ∷ []) None held in
    record {
      ends = omega (arith, f, now);
      lasts = omega (arith, l, goes);
      dones = once_same (λ (x : Entry). is_done x.reply) [] e (ap is_done o.reply) (omega arith);
    }

pub lane_counts : (l : ℕ) (journal : List Entry) → IsLegal journal → LaneCounts (own_entries l journal)
lane_counts l = legal_induct (λ log. LaneCounts (own_entries l log)) first step
  where
    first : (e : Entry) → IsOpening e → LaneCounts (own_entries l (e ∷ []))
    first e o = elim (nat_eq e.lane l) as (λ b. LaneCounts (cond b (e ∷ []) [])) [ true ↦ lane_first e o | false ↦ lane_none ]

    step : (log : List Entry) (e : Entry) → LaneCounts (own_entries l log) → Follows log e → LaneCounts (own_entries l (log ++ e ∷ []))
    step log e p f =
        elim (eqb_tells e.lane l) [
          | inl q ↦ subst (λ m. LaneCounts (own_entries m (log ++ e ∷ []))) q.1
              (subst LaneCounts (sym (own-snoc-same log e))
              (lane_step log e.lane e.run e.call e.reply (subst (λ m. LaneCounts (own_entries m log)) (sym q.1) p) (entering log e f)))
          | inr q ↦ subst LaneCounts (sym (own-snoc-other l log e q.1)) p
        ]

-- what is true of the runs: those that were given are the first so many
pub record RunCounts (log : List Entry) : Type 0 where
  pub first_given : (k : ℕ) → is_claimed k log ≡ nat_lt k (gives log)
  pub few_given : gives log ≤ run_count log
  pub few_runs : run_count log ≤ 4096

pub starts-snoc : (log : List Entry) (e : Entry) → run_count (log ++ e ∷ []) ≡ run_count log + as_number (is_started e.reply)
starts-snoc log e = let c = count-snoc (λ (x : Entry). is_started x.reply) log e in omega (arith, c)

pub claimed-snoc : (k : ℕ) (log : List Entry) (e : Entry) → is_claimed k (log ++ e ∷ []) ≡ (is_claimed k log || claims k e.reply)
claimed-snoc k log e = any-snoc (λ (x : Entry). claims k x.reply) log e

abbrev unwrap : Option ℕ → ℕ
unwrap None = 0
unwrap (Some k) = k

least_by : (log : List Entry) (g : ℕ) → ((k : ℕ) → is_claimed k log ≡ nat_lt k g) → (from many k : ℕ) → from ≤ g
    → (from + 1 ≤ g → first_unclaimed log (from + 1) many ≡ Some k → (k ≡ g) × (g < from + 1 + many))
    → (b : Bool) → is_claimed from log ≡ b → (if b then first_unclaimed log (from + 1) many else Some from) ≡ Some k → (k ≡ g) × (g < from + suc many)
least_by log g all from many k le go true is e =
    let less = ltb-true from g (sym (all from) ∙ is) in
    let rest = go (omega (arith, less)) e in
    let l = rest.1 in (rest.0, omega (arith, l))
least_by log g all from many k le go false is e =
    let more = ltb-false from g (sym (all from) ∙ is) in
    let here : from ≡ k = ap unwrap e in
    (omega (arith, here, more, le), omega (arith, more, le))

pub least : (log : List Entry) (g : ℕ) → ((k : ℕ) → is_claimed k log ≡ nat_lt k g) → (from many k : ℕ) → from ≤ g
    → first_unclaimed log from many ≡ Some k → (k ≡ g) × (g < from + many)
least log g all from zero k le e = none_some k e
least log g all from (suc many) k le e =
    least_by log g all from many k le (λ l q. least log g all (from + 1) many k l q) (is_claimed from log) refl e

lt_or_eq_by : (j g : ℕ) (a b : Bool) → nat_lt j g ≡ a → nat_eq g j ≡ b → (nat_lt j g || nat_eq g j) ≡ nat_lt j (g + 1)
lt_or_eq_by j g true b p q = ap (λ x. x || nat_eq g j) p ∙ sym (lt-ltb j (g + 1) (let l = ltb-true j g p in omega (arith, l)))
lt_or_eq_by j g false true p q =
    ap (λ x. x || nat_eq g j) p ∙ q ∙ sym (lt-ltb j (g + 1) (let e = eqb-true g j q in omega (arith, e)))
lt_or_eq_by j g false false p q =
    ap (λ x. x || nat_eq g j) p ∙ q
    ∙ sym (le-ltb j (g + 1) (let l = ltb-false j g p in let n : g ≢ j = (λ e. absurd (eqb-false g j q e)) in omega (arith, l, n)))

lt_or_eq : (j g : ℕ) → (nat_lt j g || nat_eq g j) ≡ nat_lt j (g + 1)
lt_or_eq j g = lt_or_eq_by j g (nat_lt j g) (nat_eq g j) refl refl

given_as : (k g j : ℕ) → k ≡ g → (nat_lt j g || nat_eq k j) ≡ nat_lt j (g + 1)
given_as k g j e = ap (λ m. nat_lt j g || nat_eq m j) e ∙ lt_or_eq j g

-- an entry that gives no run
run_same : (log : List Entry) (e : Entry) → RunCounts log → is_given e.reply ≡ false
    → ((is_started e.reply ≡ false) ⊎ (nat_lt (run_count log) 4096 ≡ true)) → RunCounts (log ++ e ∷ [])
run_same log e c none started =
    let g : gives (log ++ e ∷ []) ≡ gives log + 0 = gives-snoc log e ∙ ap (λ b. gives log + as_number b) none in
    let same : gives (log ++ e ∷ []) ≡ gives log = omega (arith, g) in
    let r = starts-snoc log e in
    let few = c.few_given in
    let runs = c.few_runs in
    record {
      first_given = λ k. claimed-snoc k log e ∙ ap (λ b. is_claimed k log || b) (not_given e.reply k none) ∙ or_no (is_claimed k log) ∙ c.first_given k ∙ ap (nat_lt k) (sym same);
      few_given = omega (arith, same, r, few);
      few_runs = elim started [
        | inl n ↦ let z : run_count (log ++ e ∷ []) ≡ run_count log + 0 = r ∙ ap (λ b. run_count log + as_number b) n in omega (arith, z, runs)
        | inr l ↦ let less = ltb-true (run_count log) 4096 l in let one = small_number (is_started e.reply) in omega (arith, r, less, one)
      ];
    }
  where
    or_no : (b : Bool) → (b || false) ≡ b
    or_no true = refl
    or_no false = refl

run_step : (log : List Entry) (lane : ℕ) (run : Option ℕ) (call : Call) (reply : Reply) → RunCounts log
    → Entering log lane run call reply → RunCounts (log ++ record { lane = lane; run = run; call = call; reply = reply } ∷ [])
run_step log lane _ _ _ c (enter.claims k source params none q s p) =
    let e : Entry = record { lane = lane; run = None; call = Claim; reply = Claimed k source params } in
    let at = least log (gives log) c.first_given 0 (run_count log) k (omega arith) q in
    let g : gives (log ++ e ∷ []) ≡ gives log + 1 = gives-snoc log e in
    let r : run_count (log ++ e ∷ []) ≡ run_count log + 0 = starts-snoc log e in
    let less = at.1 in
    let runs = c.few_runs in
    record {
      first_given = λ j. claimed-snoc j log e ∙ ap (λ b. b || nat_eq k j) (c.first_given j) ∙ given_as k (gives log) j at.0 ∙ ap (nat_lt j) (sym g);
      few_given = omega (arith, g, r, less);
      few_runs = omega (arith, r, runs);
    }
run_step log lane _ _ _ c (enter.done_entry not_done none q is) = run_same log _ c refl (inl refl)
run_step log lane _ _ _ c enter.quits = run_same log _ c refl (inl refl)
run_step log lane _ _ _ c (enter.finishes run end held) = run_same log _ c refl (inl refl)
run_step log lane _ _ _ c (enter.acts run call reply held fresh ends_fit_ for_run no_finish answered) =
    let p = plain log run call reply (run_outcome log run call reply answered) in run_same log _ c p.0 p.2

run_none : RunCounts []
run_none = record { first_given = λ k. sym (le-ltb k 0 (omega arith)); few_given = omega arith; few_runs = omega arith }

pub run_counts : (journal : List Entry) → IsLegal journal → RunCounts journal
run_counts = legal_induct RunCounts
    (λ e o. run_same [] e run_none (ap is_given o.reply) (inl (ap is_started o.reply)))
    (λ log e p f. run_step log e.lane e.run e.call e.reply p (entering log e f))

-- lanes are given the runs in order
pub given_in_order : GivenInOrder
given_in_order journal legal = let counts = run_counts journal legal in (counts.first_given, counts.few_given)

-- all lanes are below the number that the job was opened with, at most 64
pub record LanesBelow (log : List Entry) : Type 0 where
  pub lanes : ℕ
  pub lanes_is : lanes_of log ≡ lanes
  pub some : 1 ≤ lanes
  pub few : lanes ≤ 64
  pub allowed : (lane : ℕ) → below_lanes lane (opening log) ≡ true → lane < lanes
  pub all : AllBelow lanes log

lanes_first : (e : Entry) (o : Option Opening) → opening_of e.call ≡ o → OpensSo o → e.lane ≡ 0 → LanesBelow (e ∷ [])
lanes_first e None q h z = absurd h
lanes_first e (Some o) q h z = record {
  lanes = o.lanes;
  lanes_is = ap (λ p. option_map_or (λ (x : Opening). x.lanes) p 0) q;
  some = h.some_lane;
  few = h.few_lanes;
  allowed = λ lane b. ltb-true lane o.lanes (sym (ap (below_lanes lane) q) ∙ b);
  all = (let s = h.some_lane in omega (arith, z, s), tt);
}

lanes_more : (log : List Entry) (e : Entry) → LanesBelow log → below_lanes e.lane (opening log) ≡ true → LanesBelow (log ++ e ∷ [])
lanes_more [] e c b = absurd (false_true b)
lanes_more (x ∷ xs) e c b = record {
  lanes = c.lanes;
  lanes_is = c.lanes_is;
  some = c.some;
  few = c.few;
  allowed = c.allowed;
  all = AllBelow-snoc c.lanes (x ∷ xs) e c.all (c.allowed e.lane b);
}

pub lanes_below : (journal : List Entry) → IsLegal journal → LanesBelow journal
lanes_below = legal_induct LanesBelow
    (λ e o. lanes_first e (opening_of e.call) refl o.opened o.lane)
    (λ log e p f. lanes_more log e p (is_below log e f))

-- the job is ended once
pub quits_once : (journal : List Entry) → IsLegal journal → AtMostOnce (λ (e : Entry). is_quit e.call) journal
quits_once = legal_induct (AtMostOnce (λ (e : Entry). is_quit e.call))
    (λ e o. once_more (λ (x : Entry). is_quit x.call) [] e refl (omega arith))
    (λ log e p f. once_more (λ (x : Entry). is_quit x.call) log e (no_quit log e f) p)

-- the entries that may stand behind the millionth
abbrev pub is_mark : Call → Reply → Bool
is_mark call reply = is_quit call || (is_finish call || (is_given reply || (is_done reply || is_last reply)))

abbrev pub marks : List Entry → ℕ
marks es = count_by (λ (e : Entry). is_mark e.call e.reply) es

pub or_yes : (b : Bool) → (b || true) ≡ true
or_yes true = refl
or_yes false = refl

last_marks : (call : Call) (reply : Reply) → is_last reply ≡ true → is_mark call reply ≡ true
last_marks call reply e =
    ap (λ b. is_quit call || (is_finish call || (is_given reply || (is_done reply || b)))) e
    ∙ ap (λ b. is_quit call || (is_finish call || (is_given reply || b))) (or_yes (is_done reply))
    ∙ ap (λ b. is_quit call || (is_finish call || b)) (or_yes (is_given reply))
    ∙ ap (λ b. is_quit call || b) (or_yes (is_finish call))
    ∙ or_yes (is_quit call)

full_by : (log : List Entry) (call : Call) → 1000000 ≤ length log → is_full log call ≡ false → ⊥
full_by log call many e = false_true (sym (both (nat_lt 999999 (length log)) _ (lt-ltb 999999 (length log) (omega (arith, many))) e))
  where
    both : (a b : Bool) → a ≡ true → (a || b) ≡ false → true ≡ false
    both true b p q = q
    both false b p q = sym p

late_mark : (log : List Entry) (lane : ℕ) (run : Option ℕ) (call : Call) (reply : Reply) → 1000000 ≤ length log
    → Entering log lane run call reply → is_mark call reply ≡ true
late_mark log lane _ _ _ many (enter.claims k source params none q s p) = refl
late_mark log lane _ _ _ many (enter.done_entry not_done none q is) = refl
late_mark log lane _ _ _ many enter.quits = refl
late_mark log lane _ _ _ many (enter.finishes run end held) = refl
late_mark log lane _ _ _ many (enter.acts run call reply held fresh ends_fit_ for_run no_finish answered) =
    elim (outcome.by_rows (stop_rows log run call) (table_answer log run call) (Ready reply) answered) [
      | inl w ↦ last_marks call reply (ap is_last (sym (ap outcome.reply_of w.1)))
      | inr w ↦ elim w.1 [
        | inl v ↦ last_marks call reply (ap is_last (sym (ap outcome.reply_of v.1)))
        | inr v ↦ absurd (full_by log call many v.0)
      ]
    ]

marks-snoc : (log : List Entry) (e : Entry) → marks (log ++ e ∷ []) ≡ marks log + as_number (is_mark e.call e.reply)
marks-snoc log e = count-snoc (λ (x : Entry). is_mark x.call x.reply) log e

late_by : (log : List Entry) (e : Entry) → length log ≤ 1000000 + marks log → Follows log e → (early : Bool) → nat_lt (length log) 1000000 ≡ early
    → length (log ++ e ∷ []) ≤ 1000000 + marks (log ++ e ∷ [])
late_by log e h f true q =
    let l = length-append log (e ∷ []) in let less = ltb-true (length log) 1000000 q in omega (arith, l, less)
late_by log e h f false q =
    let l = length-append log (e ∷ []) in
    let m : marks (log ++ e ∷ []) ≡ marks log + 1 =
    marks-snoc log e ∙ ap (λ b. marks log + as_number b) (late_mark log e.lane e.run e.call e.reply (ltb-false (length log) 1000000 q) (entering log e f)) in
    omega (arith, l, m, h)

late : (journal : List Entry) → IsLegal journal → length journal ≤ 1000000 + marks journal
late = legal_induct (λ log. length log ≤ 1000000 + marks log)
    (λ e o. omega arith)
    (λ log e p f. late_by log e p f (nat_lt (length log) 1000000) refl)

pub few_entries : (journal : List Entry) → IsLegal journal → length journal < 1100000
few_entries journal h =
    let below = lanes_below journal h in
    let runs = run_counts journal h in
    let lane_ : (l : ℕ) → LaneCounts (own_entries l journal) = λ l. lane_counts l journal h in
    let length_ = late journal h in
    let a = count_either (λ (e : Entry). is_quit e.call) (λ (e : Entry). is_finish e.call || (is_given e.reply || (is_done e.reply || is_last e.reply))) journal in
    let b = count_either (λ (e : Entry). is_finish e.call) (λ (e : Entry). is_given e.reply || (is_done e.reply || is_last e.reply)) journal in
    let c = count_either (λ (e : Entry). is_given e.reply) (λ (e : Entry). is_done e.reply || is_last e.reply) journal in
    let d = count_either (λ (e : Entry). is_done e.reply) (λ (e : Entry). is_last e.reply) journal in
    let quit = quits_once journal h in
    let f = count_parts (λ (e : Entry). is_finish e.call) below.lanes journal below.all in
    let g = count_parts (λ (e : Entry). is_given e.reply) below.lanes journal below.all in
    let l = count_parts (λ (e : Entry). is_last e.reply) below.lanes journal below.all in
    let n = count_parts (λ (e : Entry). is_done e.reply) below.lanes journal below.all in
    let fg = total_le below.lanes (λ l. fins (own_entries l journal)) (λ l. gives (own_entries l journal)) (λ l. let x = (lane_ l).ends in omega (arith, x)) in
    let lg = total_le below.lanes (λ l. lasts (own_entries l journal)) (λ l. gives (own_entries l journal)) (λ l. let x = (lane_ l).lasts in omega (arith, x)) in
    let nn = total_same below.lanes 1 (λ l. dones (own_entries l journal)) (λ l. let x = (lane_ l).dones in omega (arith, x)) (omega arith) in
    let few = below.few in
    let given = runs.few_given in
    let many = runs.few_runs in
    omega (arith, length_, a, b, c, d, quit, f, g, l, n, fg, lg, nn, few, given, many)

files_few : (o : Option Opening) → OpensSo o → length (option_map_or (λ (p : Opening). p.files) o []) ≤ 128
files_few None h = absurd h
files_few (Some o) h = h.few_files

-- and lists at most 128 files
pub few_files : (journal : List Entry) → IsLegal journal → length (files_of journal) ≤ 128
few_files [] h = absurd h
few_files (e ∷ es) h = let o = h.0 in files_few (opening_of e.call) o.opened
