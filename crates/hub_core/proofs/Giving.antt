-- What is known of a run that a claim gives, and of a run that ends.

use Rattle.std.proofs.Common.{◌≡◌, ◌≤◌, ◌<◌, ℕ, zero, suc, ◌+◌, Bool, true, false, ◌&&◌, ◌||◌, List, [], ◌∷◌, ◌++◌, Option, Some, None, refl, sym, ap, ◌∙◌, subst, arith, true≢false}
use Rattle.std.specs.Prelude.{IsTrue, Result, Ok, Err, IsOk, OnOk, slice_get, slice_set, if◌then◌else◌}
use Rattle.std.proofs.lemmas.Bool.{eq-eqb}
use Rattle.std.proofs.lemmas.Option.{none-some, same_Some}
use Rattle.job_calls.specs.declared.call.Call.TheVariants.{Claim, Finish}
use Rattle.job_calls.specs.declared.end.End.{End}
use Rattle.job_calls.specs.declared.entry.Entry.{Entry}
use Rattle.job_calls.specs.declared.reply.Answer.TheVariants.{Ready, Shut}
use Rattle.job_calls.specs.declared.reply.Reply.TheVariants.{Claimed as Gives, Unit as UnitReply}
use Rattle.job_calls.specs.Answers.{answer_of, give_run}
use Rattle.job_calls.specs.Entries.{is_run, is_finish, claims, run_count, is_claimed, is_finished, unclaimed_run, first_unclaimed, has_quit, own_entries}
use Rattle.job_calls.specs.Fitting.{fits}
use Rattle.job_calls.specs.Models.{is_live}
use Rattle.job_calls.specs.Runs.{opening, source_of, params_of}
use Rattle.job_laws.specs.Growth.{Grows, SourcesStay}
use Rattle.growing_lists.specs.Growing.{any-snoc}
use Rattle.hub_core.specs.declared.kept.Kept.{Kept}
use Rattle.hub_core.specs.declared.kept.Kept.TheVariants.{Unclaimed, Claimed, Ended}
use Rattle.hub_core.specs.Hubs.{entry_of}
use Rattle.hub_core.specs.Keeping.{room_for, KeepsRoom, HasTexts, GivesRun}
use Rattle.hub_core.proofs.Keeping.{changed, sum_set, live_parts}

first_is : (journal : List Entry) (from many k : ℕ) → first_unclaimed journal from many ≡ Some k → (is_claimed k journal ≡ false) × (k < from + many)
first_is journal from zero k e = absurd (none-some k e)
first_is journal from (suc many) k e = by (is_claimed from journal) refl (λ h. first_is journal (from + 1) many k h) e where
  by : (b : Bool) → is_claimed from journal ≡ b
      → (first_unclaimed journal (from + 1) many ≡ Some k → (is_claimed k journal ≡ false) × (k < from + 1 + many))
      → (if b then first_unclaimed journal (from + 1) many else Some from) ≡ Some k
      → (is_claimed k journal ≡ false) × (k < from + suc many)
  by true is rest h = let r = rest h in (r.0, let less = r.1 in omega (arith, less))
  by false is rest h =
      let same = same_Some from k h in
      (subst (λ n. is_claimed n journal ≡ false) same is, omega (arith, same))

-- the next run was given to no lane, and is one that there is
pub next_is : (journal : List Entry) (k : ℕ) → unclaimed_run journal ≡ Some k → (is_claimed k journal ≡ false) × (k < run_count journal)
next_is journal k e =
    let r = first_is journal 0 (run_count journal) k e in
    (r.0, let less = r.1 in omega (arith, less))

-- what is kept for one run is a part of all
pub within_total : (journal : List Entry × ℕ) (runs : List Kept) (total spare k : ℕ) (was : Kept) → KeepsRoom journal runs total spare
    → slice_get runs k ≡ Some was → room_for was ≤ total
within_total journal runs total spare k was keeps at =
    let s = sum_set runs k was Ended at in let t = keeps.sum in omega (arith, s, t)

pub same_at : {A : Type 0} (o : Option A) (x y : A) → o ≡ Some x → o ≡ Some y → x ≡ y
same_at o x y p q = same_Some x y (sym p ∙ q)

-- a run that goes on keeps room for its end
pub keeps_one : (journal : List Entry × ℕ) (runs : List Kept) (total spare k : ℕ) (was : Kept) → KeepsRoom journal runs total spare
    → is_live k journal.0 ≡ true → slice_get runs k ≡ Some was → 1 ≤ room_for was
keeps_one journal runs total spare k was keeps live at =
    let had = keeps.ends k live in
    subst (λ x. 1 ≤ room_for x) (same_at (slice_get runs k) had.0 was had.1 at) had.2

unit_if : (b : Bool) → b ≡ false → (if b then Shut else Ready UnitReply) ≡ Ready UnitReply
unit_if true e = absurd (true≢false e)
unit_if false e = refl

-- its end is answered while no lane has ended the job
pub end_answered : (journal : List Entry) (lane run : ℕ) (end : End) → has_quit journal ≡ false
    → answer_of journal lane (Some run) (Finish end) ≡ Ready UnitReply
end_answered journal lane run end goes = unit_if (has_quit journal) goes

still_claimed : (journal : List Entry) (k : ℕ) (e : Entry) → is_claimed k journal ≡ true → is_claimed k (journal ++ e ∷ []) ≡ true
still_claimed journal k e is = any-snoc (λ (x : Entry). claims k x.reply) journal e ∙ ap (λ b. b || claims k e.reply) is

or_yes : (b : Bool) → (b || true) ≡ true
or_yes true = refl
or_yes false = refl

module _ (grows : Grows) (stay : SourcesStay) where
  -- what is kept once a run has ended
  pub ended : (old new : List Entry × ℕ) (runs after : List Kept) (total less spare lane run : ℕ) (end : End) (was : Kept)
      → KeepsRoom old runs total spare → IsTrue (fits (opening old.0) (own_entries lane old.0) lane (Some run) (Finish end)) → has_quit old.0 ≡ false
      → is_live run old.0 ≡ true → is_claimed run old.0 ≡ true
      → new.0 ≡ old.0 ++ entry_of lane (Some run) (Finish end) UnitReply ∷ [] → old.1 ≤ new.1 + 1
      → slice_get runs run ≡ Some was → after ≡ slice_set runs run Ended → less + room_for was ≡ total → KeepsRoom new after less spare
  ended old new runs after total less spare lane run end was keeps fit goes live given put room at set fewer =
      let e : Entry = entry_of lane (Some run) (Finish end) UnitReply in
      let some = keeps_one old runs total spare run was keeps live at in
      let over : is_finished run (old.0 ++ e ∷ []) ≡ true =
      any-snoc (λ (x : Entry). is_run run x.run && is_finish x.call) old.0 e
      ∙ ap (λ b. is_finished run old.0 || (b && true)) (eq-eqb run run refl) ∙ or_yes (is_finished run old.0) in
      subst (λ x. KeepsRoom new x less spare) (sym set)
      (changed grows stay old new runs total less spare run was Ended e keeps
      (record { fit = fit; answered = end_answered old.0 lane run end goes }) put room refl at (omega (arith, some)) (omega (arith, fewer))
      (still_claimed old.0 run e given)
      (λ lives. absurd (true≢false (sym over ∙ (live_parts run (old.0 ++ e ∷ []) lives).1))))

  -- and once a run was given to a lane
  pub given : (old new : List Entry × ℕ) (runs after : List Kept) (total less spare lane k source : ℕ) (params : List ℕ) (was : Kept)
      → KeepsRoom old runs total spare → IsTrue (fits (opening old.0) (own_entries lane old.0) lane None Claim)
      → answer_of old.0 lane None Claim ≡ Ready (Gives k source params)
      → new.0 ≡ old.0 ++ entry_of lane None Claim (Gives k source params) ∷ [] → old.1 ≤ new.1 + 1
      → slice_get runs k ≡ Some was → room_for was ≡ 2 → after ≡ slice_set runs k Claimed → less + 1 ≡ total → KeepsRoom new after less spare
  given old new runs after total less spare lane k source params was keeps fit answered put room at two set fewer =
      let e : Entry = entry_of lane None Claim (Gives k source params) in
      let now : is_claimed k (old.0 ++ e ∷ []) ≡ true =
      any-snoc (λ (x : Entry). claims k x.reply) old.0 e ∙ ap (λ b. is_claimed k old.0 || b) (eq-eqb k k refl) ∙ or_yes (is_claimed k old.0) in
      subst (λ x. KeepsRoom new x less spare) (sym set)
      (changed grows stay old new runs total less spare k was Claimed e keeps
      (record { fit = fit; answered = answered }) put room refl at (omega (arith, two)) (omega (arith, fewer, two)) now (λ lives. omega arith))

-- the two texts that are kept
abbrev entry_in : Kept → List ℕ
entry_in (Unclaimed entry reply) = entry
entry_in kept = []

abbrev reply_in : Kept → List ℕ
reply_in (Unclaimed entry reply) = reply
reply_in kept = []

-- they are the parameter text of the run
pub texts_are : (runs : List Kept) (journal : List Entry) (k : ℕ) (was : Kept) (entry reply : List ℕ) → HasTexts runs journal k
    → slice_get runs k ≡ Some was → was ≡ Unclaimed entry reply → (params_of k journal ≡ Some entry) × (reply ≡ entry)
texts_are runs journal k was entry reply had at is =
    let same : Unclaimed had.0 had.0 ≡ Unclaimed entry reply = same_at (slice_get runs k) (Unclaimed had.0 had.0) was had.1 at ∙ is in
    (had.2 ∙ ap (λ x. Some (entry_in x)) same, sym (ap reply_in same) ∙ ap entry_in same)

-- with them the run is given
pub claimed : (journal : List Entry) (lane k source : ℕ) (params : List ℕ) → GivesRun journal lane k → source_of k journal ≡ Some source
    → params_of k journal ≡ Some params → answer_of journal lane None Claim ≡ Ready (Gives k source params)
claimed journal lane k source params gives source_is params_is =
    gives.answered ∙ ap (λ o. give_run k o (params_of k journal)) source_is ∙ ap (give_run k (Some source)) params_is

-- what was done holds
pub done : {A B : Type 0} {P : Type 0} (result : Result A B) → IsOk result → OnOk result P → P
done (Ok x) ok told = told
done (Err x) ok told = absurd (true≢false (sym ok))
