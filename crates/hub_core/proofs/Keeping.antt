-- What is kept for runs, once an entry is put at the end of the journal.

use Rattle.std.proofs.Common.{◌≡◌, ◌≤◌, ◌<◌, ℕ, zero, suc, ◌+◌, Bool, true, false, not, ◌&&◌, ◌||◌, List, [], ◌∷◌, ◌++◌, Option, Some, None, inl, inr, refl, sym, ap, ◌∙◌, subst, length, arith, true≢false, add-one}
use Rattle.std.specs.Prelude.{slice_get, slice_set, nat_lt, count_by, option_map, if◌then◌else◌}
use Rattle.std.proofs.lemmas.Bool.{ltb-true, ltb-false, lt-ltb, eq-eqb}
use Rattle.std.proofs.lemmas.Bool.Decides.{eqb_tells}
use Rattle.std.proofs.lemmas.List.{length_push}
use Rattle.std.proofs.lemmas.List.Sums.{sum_by-append, sum_by-set}
use Rattle.std.proofs.lemmas.Option.{slice_get_within, get_or_from_slice_get}
use Rattle.job_calls.specs.declared.call.Call.TheVariants.{Run}
use Rattle.job_calls.specs.declared.reply.Reply.TheVariants.{Started}
use Rattle.job_calls.specs.declared.entry.Entry.{Entry}
use Rattle.job_calls.specs.Entries.{is_run, is_finish, is_started, claims, run_count, is_claimed, is_finished}
use Rattle.job_calls.specs.Runs.{Start, last_of, start_of_run, params_of}
use Rattle.job_calls.specs.Models.{is_live}
use Rattle.job_calls.specs.Legal.{IsLegal, Follows}
use Rattle.job_laws.specs.Growth.{Grows, SourcesStay}
use Rattle.growing_lists.specs.Growing.{any-snoc, count-snoc, last_given-snoc, as_number}
use Rattle.hub_core.specs.declared.kept.Kept.{Kept}
use Rattle.hub_core.specs.declared.kept.Kept.TheVariants.{Unclaimed}
use Rattle.hub_core.specs.Keeping.{room_for, room_kept, wanted_for, kept_after, HasTexts, HasRoom, StartsWith, KeepsRoom}

-- elements of a list that one was put behind, or in which one was set
get_before : {A : Type 0} (xs : List A) (x : A) (n : ℕ) → n < length xs → slice_get (xs ++ x ∷ []) n ≡ slice_get xs n
get_before [] x n less = absurd (omega (arith, less))
get_before (y ∷ ys) x zero less = refl
get_before (y ∷ ys) x (suc n) less = get_before ys x n (omega (arith, less))

get_last : {A : Type 0} (xs : List A) (x : A) → slice_get (xs ++ x ∷ []) (length xs) ≡ Some x
get_last [] x = refl
get_last (y ∷ ys) x = get_last ys x

get_set : {A : Type 0} (xs : List A) (k : ℕ) (y : A) → k < length xs → slice_get (slice_set xs k y) k ≡ Some y
get_set [] k y less = absurd (omega (arith, less))
get_set (x ∷ xs) zero y less = refl
get_set (x ∷ xs) (suc k) y less = get_set xs k y (omega (arith, less))

get_other : {A : Type 0} (xs : List A) (k n : ℕ) (y : A) → (k ≡ n → ⊥) → slice_get (slice_set xs k y) n ≡ slice_get xs n
get_other [] k n y apart = refl
get_other (x ∷ xs) zero zero y apart = absurd (apart refl)
get_other (x ∷ xs) zero (suc n) y apart = refl
get_other (x ∷ xs) (suc k) zero y apart = refl
get_other (x ∷ xs) (suc k) (suc n) y apart = get_other xs k n y (λ e. apart (ap suc e))

set_long : {A : Type 0} (xs : List A) (k : ℕ) (y : A) → length (slice_set xs k y) ≡ length xs
set_long [] k y = refl
set_long (x ∷ xs) zero y = refl
set_long (x ∷ xs) (suc k) y = ap suc (set_long xs k y)

pub sum_set : (runs : List Kept) (k : ℕ) (was now : Kept) → slice_get runs k ≡ Some was → room_kept (slice_set runs k now) + room_for was ≡ room_kept runs + room_for now
sum_set runs k was now at =
    ap (λ x. room_kept (slice_set runs k now) + room_for x) (sym (get_or_from_slice_get runs k was was at))
    ∙ sum_by-set room_for runs k now was (slice_get_within runs k was at)

and_split : (a b : Bool) → (a && b) ≡ true → (a ≡ true) × (b ≡ true)
and_split true b e = (refl, e)
and_split false b e = absurd (true≢false (sym e))

or_split : (a b : Bool) → (a || b) ≡ false → (a ≡ false) × (b ≡ false)
or_split true b e = absurd (true≢false e)
or_split false b e = (refl, e)

not_split : (b : Bool) → not b ≡ true → b ≡ false
not_split true e = sym e
not_split false e = refl

counted : (journal : List Entry) (e : Entry) → run_count (journal ++ e ∷ []) ≡ run_count journal + as_number (is_started e.reply)
counted journal e =
    let more = count-snoc (λ (x : Entry). is_started x.reply) journal e in omega (arith, more)

was_unclaimed : (k : ℕ) (journal : List Entry) (e : Entry) → is_claimed k (journal ++ e ∷ []) ≡ false → (is_claimed k journal ≡ false) × (claims k e.reply ≡ false)
was_unclaimed k journal e h = or_split (is_claimed k journal) (claims k e.reply) (sym (any-snoc (λ (x : Entry). claims k x.reply) journal e) ∙ h)

was_unended : (k : ℕ) (journal : List Entry) (e : Entry) → is_finished k (journal ++ e ∷ []) ≡ false
    → (is_finished k journal ≡ false) × ((is_run k e.run && is_finish e.call) ≡ false)
was_unended k journal e h =
    or_split (is_finished k journal) (is_run k e.run && is_finish e.call) (sym (any-snoc (λ (x : Entry). is_run k x.run && is_finish x.call) journal e) ∙ h)

live_if : (k : ℕ) (journal : List Entry) → k < run_count journal → is_finished k journal ≡ false → is_live k journal ≡ true
live_if k journal less goes = ap (λ b. b && not (is_finished k journal)) (lt-ltb k (run_count journal) less) ∙ ap not goes

pub live_parts : (k : ℕ) (journal : List Entry) → is_live k journal ≡ true → (k < run_count journal) × (is_finished k journal ≡ false)
live_parts k journal live =
    let both = and_split (nat_lt k (run_count journal)) (not (is_finished k journal)) live in
    (ltb-true k (run_count journal) both.0, not_split (is_finished k journal) both.1)

-- all that is kept after a run may have started
abbrev pub Keeping : List Entry → List Kept → Type 0
Keeping journal runs =
    (length runs ≡ run_count journal)
    × ((k : ℕ) → k < run_count journal → is_claimed k journal ≡ false → HasTexts runs journal k)
    × ((k : ℕ) → is_live k journal ≡ true → HasRoom runs k)

-- a run that the entry starts gets the next number
abbrev pub NextStarts : List Entry → Entry → Type 0
NextStarts journal e = (model : ℕ) (params : List ℕ) (run : ℕ) → e.call ≡ Run model params → e.reply ≡ Started run → run ≡ run_count journal

module _ (grows : Grows) (stay : SourcesStay) where
  params_stay : (journal : List Entry) (e : Entry) (k : ℕ) → IsLegal journal → Follows journal e → k < run_count journal
      → params_of k (journal ++ e ∷ []) ≡ params_of k journal
  params_stay journal e k h f less = (stay journal (e ∷ []) h (grows journal e h f) k less).1

  -- one run is changed, of which a lane was told
  pub changed : (old new : List Entry × ℕ) (runs : List Kept) (total less spare run : ℕ) (was now : Kept) (e : Entry)
      → KeepsRoom old runs total spare → Follows old.0 e → new.0 ≡ old.0 ++ e ∷ [] → old.1 ≤ new.1 + 1
      → is_started e.reply ≡ false → slice_get runs run ≡ Some was → room_for now + 1 ≤ room_for was
      → less + room_for was ≡ total + room_for now → is_claimed run (old.0 ++ e ∷ []) ≡ true
      → (is_live run (old.0 ++ e ∷ []) ≡ true → 1 ≤ room_for now)
      → KeepsRoom new (slice_set runs run now) less spare
  changed old new runs total less spare run was now e keeps f put room starts at fewer sum given goes =
      let j = old.0 ++ e ∷ [] in
      let count : run_count j ≡ run_count old.0 = counted old.0 e ∙ ap (λ b. run_count old.0 + as_number b) starts ∙ add_none (run_count old.0) in
      let within = slice_get_within runs run was at in
      record {
        legal = subst IsLegal (sym put) (grows old.0 e keeps.legal f);
        all = set_long runs run now ∙ keeps.all ∙ sym count ∙ ap run_count (sym put);
        texts = subst (λ x. (k : ℕ) → k < run_count x → is_claimed k x ≡ false → HasTexts (slice_set runs run now) x k) (sym put)
            (λ k below un.
            let small : k < run_count old.0 = omega (arith, below, count) in
            let had = keeps.texts k small (was_unclaimed k old.0 e un).0 in
            let apart : run ≡ k → ⊥ = λ same. true≢false (sym given ∙ ap (λ n. is_claimed n j) same ∙ un) in
            (had.0, get_other runs run k now apart ∙ had.1, params_stay old.0 e k keeps.legal f small ∙ had.2));
        ends = subst (λ x. (k : ℕ) → is_live k x ≡ true → HasRoom (slice_set runs run now) k) (sym put)
            (λ k live. elim (eqb_tells run k) [
              | inl same ↦ subst (HasRoom (slice_set runs run now)) same.1
                  (now, get_set runs run now within, goes (ap (λ n. is_live n j) same.1 ∙ live))
              | inr apart ↦
                  let parts = live_parts k j live in
                  let small = parts.0 in
                  let had = keeps.ends k (live_if k old.0 (omega (arith, small, count)) (was_unended k old.0 e parts.1).0) in
                  (had.0, get_other runs run k now apart.1 ∙ had.1, had.2)
            ]);
        sum = let s = sum_set runs run was now at in let t = keeps.sum in omega (arith, s, t, sum);
        room = let r = keeps.room in omega (arith, r, room, sum, fewer);
      }
    where
      add_none : (n : ℕ) → n + 0 ≡ n
      add_none n = omega arith

  -- the parameter text of a run that starts now
  params_now : (journal : List Entry) (e : Entry) (model : ℕ) (params : List ℕ) → e.call ≡ Run model params → e.reply ≡ Started (run_count journal)
      → params_of (run_count journal) (journal ++ e ∷ []) ≡ Some params
  params_now journal e model params call reply = by (count_by (λ (x : Entry). is_started x.reply) journal) (run_count journal) (add-one _) reply where
    give : ℕ → Entry → Option (List ℕ)
    give k x = option_map (λ (start : Start). start.params) (start_of_run k x)

    given : (k : ℕ) → e.reply ≡ Started k → give k e ≡ Some params
    given k is =
        ap (λ c. give k (record { lane = e.lane; run = e.run; call = c; reply = e.reply })) call
        ∙ ap (λ r. give k (record { lane = e.lane; run = e.run; call = Run model params; reply = r })) is
        ∙ ap (λ b. option_map (λ (start : Start). start.params) (if b then Some (record { run = k; model = model; params = params; parent = e.run }) else None)) (eq-eqb k k refl)

    by : (n k : ℕ) → k ≡ suc n → e.reply ≡ Started k → params_of k (journal ++ e ∷ []) ≡ Some params
    by n zero is r = absurd (omega (arith, is))
    by n (suc k) is r = last_given-snoc (give (suc k)) journal e ∙ ap (last_of _) (given (suc k) r)

  keep_none : (journal : List Entry) (runs : List Kept) (e : Entry) → IsLegal journal → Follows journal e → is_started e.reply ≡ false
      → Keeping journal runs → Keeping (journal ++ e ∷ []) runs
  keep_none journal runs e h f starts keeps =
      let count : run_count (journal ++ e ∷ []) ≡ run_count journal = counted journal e ∙ ap (λ b. run_count journal + as_number b) starts ∙ add_none (run_count journal) in (
        keeps.0 ∙ sym count,
        λ k below un.
            let small : k < run_count journal = omega (arith, below, count) in
            let had = keeps.1 k small (was_unclaimed k journal e un).0 in (had.0, had.1, params_stay journal e k h f small ∙ had.2),
        λ k live.
            let parts = live_parts k (journal ++ e ∷ []) live in
            let small = parts.0 in
            keeps.2 k (live_if k journal (omega (arith, small, count)) (was_unended k journal e parts.1).0),
      ) where
        add_none : (n : ℕ) → n + 0 ≡ n
        add_none n = omega arith

  keep_some : (journal : List Entry) (runs : List Kept) (e : Entry) (model : ℕ) (params : List ℕ) → IsLegal journal → Follows journal e
      → e.call ≡ Run model params → e.reply ≡ Started (run_count journal)
      → Keeping journal runs → Keeping (journal ++ e ∷ []) (runs ++ Unclaimed params params ∷ [])
  keep_some journal runs e model params h f call reply keeps = (
    length_push runs mine ∙ ap (λ n. n + 1) keeps.0 ∙ sym count,
    λ k below un. texts k (nat_lt k (run_count journal)) refl below un,
    λ k live. ends k (nat_lt k (run_count journal)) refl live,
  ) where
    mine : Kept
    mine = Unclaimed params params

    after : List Entry
    after = journal ++ e ∷ []

    count : run_count after ≡ run_count journal + 1
    count = counted journal e ∙ ap (λ r. run_count journal + as_number (is_started r)) reply

    here : (k : ℕ) → nat_lt k (run_count journal) ≡ false → k < run_count after → k ≡ length runs
    here k over below =
        let past = ltb-false k (run_count journal) over in let all = keeps.0 in let n = count in omega (arith, past, below, all, n)

    texts : (k : ℕ) (b : Bool) → nat_lt k (run_count journal) ≡ b → k < run_count after → is_claimed k after ≡ false → HasTexts (runs ++ mine ∷ []) after k
    texts k true is below un =
        let small = ltb-true k (run_count journal) is in
        let had = keeps.1 k small (was_unclaimed k journal e un).0 in
        let all = keeps.0 in
        (had.0, get_before runs mine k (omega (arith, small, all)) ∙ had.1, params_stay journal e k h f small ∙ had.2)
    texts k false is below un =
        let same = here k is below in
        subst (HasTexts (runs ++ mine ∷ []) after) (sym same)
        (params, get_last runs mine, ap (λ n. params_of n after) keeps.0 ∙ params_now journal e model params call reply)

    ends : (k : ℕ) (b : Bool) → nat_lt k (run_count journal) ≡ b → is_live k after ≡ true → HasRoom (runs ++ mine ∷ []) k
    ends k true is live =
        let small = ltb-true k (run_count journal) is in
        let had = keeps.2 k (live_if k journal small (was_unended k journal e (live_parts k after live).1).0) in
        let all = keeps.0 in
        (had.0, get_before runs mine k (omega (arith, small, all)) ∙ had.1, had.2)
    ends k false is live =
        let same = here k is (live_parts k after live).0 in
        subst (HasRoom (runs ++ mine ∷ [])) (sym same) (mine, get_last runs mine, omega arith)

  keep_by : (journal : List Entry) (runs : List Kept) (e : Entry) (kept : Option Kept) → IsLegal journal → Follows journal e → StartsWith e.call e.reply kept
      → NextStarts journal e → Keeping journal runs → Keeping (journal ++ e ∷ []) (kept_after runs kept)
  keep_by journal runs e None h f starts next keeps = keep_none journal runs e h f starts keeps
  keep_by journal runs e (Some kept) h f starts next keeps =
      subst (λ x. Keeping (journal ++ e ∷ []) (runs ++ x ∷ [])) (sym starts.5)
      (keep_some journal runs e starts.0 starts.1 h f starts.3 (starts.4 ∙ ap Started (next starts.0 starts.1 starts.2 starts.3 starts.4)) keeps)

  sum_by_kept : (runs : List Kept) (kept : Option Kept) → room_kept (kept_after runs kept) ≡ room_kept runs + wanted_for kept
  sum_by_kept runs None = omega arith
  sum_by_kept runs (Some kept) = sum_by-append room_for runs (kept ∷ []) ∙ ap (λ n. room_kept runs + n) (zero_on (room_for kept)) where
    zero_on : (n : ℕ) → 0 + n ≡ n
    zero_on n = omega arith

  -- an entry was put by which a run may have started
  pub recorded : (old new : List Entry × ℕ) (runs after : List Kept) (total more spare less : ℕ) (e : Entry) (kept : Option Kept)
      → KeepsRoom old runs total spare → Follows old.0 e → new.0 ≡ old.0 ++ e ∷ [] → old.1 ≤ new.1 + 1 → StartsWith e.call e.reply kept
      → NextStarts old.0 e
      → after ≡ kept_after runs kept → more ≡ total + wanted_for kept → spare ≡ less + (1 + wanted_for kept) → KeepsRoom new after more less
  recorded old new runs after total more spare less e kept keeps f put room starts next runs_is total_is spare_is =
      let j = old.0 ++ e ∷ [] in
      let all : Keeping j (kept_after runs kept) = keep_by old.0 runs e kept keeps.legal f starts next (keeps.all, keeps.texts, keeps.ends) in
      let here : Keeping new.0 after = subst (λ x. Keeping new.0 x) (sym runs_is) (subst (λ x. Keeping x (kept_after runs kept)) (sym put) all) in
      record {
        legal = subst IsLegal (sym put) (grows old.0 e keeps.legal f);
        all = here.0;
        texts = here.1;
        ends = here.2;
        sum = total_is ∙ ap (λ n. n + wanted_for kept) keeps.sum ∙ sym (sum_by_kept runs kept) ∙ ap room_kept (sym runs_is);
        room = let r = keeps.room in omega (arith, r, room, total_is, spare_is);
      }
