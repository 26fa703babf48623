-- How many runs are live: one that ends is one less, one that starts is one more.

use Rattle.std.proofs.Common.{◌≡◌, ◌≢◌, ◌<◌, ◌≤◌, ℕ, suc, zero, ◌+◌, Bool, true, false, not, ◌&&◌, ◌||◌, List, [], ◌∷◌, ◌++◌, Option, Some, None, refl, sym, ap, ◌∙◌, length, arith, nat_eq, true≢false}
use Rattle.std.specs.Prelude.{nat_lt, count_by}
use Rattle.std.specs.List.{range_with_len}
use Rattle.std.specs.Option.{option_map_or}
use Rattle.std.proofs.lemmas.Bool.{eqb-true, eq-eqb, lt-ltb, ltb-true, ltb-false}
use Rattle.std.proofs.lemmas.List.FromFn.{length-range_with_len}
use Rattle.std.proofs.lemmas.List.Sums.{length-filter, count_by-le-length}
use Rattle.job_calls.specs.declared.call.Call.{Call}
use Rattle.job_calls.specs.declared.call.Call.TheVariants.{Finish}
use Rattle.job_calls.specs.declared.entry.Entry.{Entry}
use Rattle.job_calls.specs.Entries.{is_run, is_finish, is_finished, is_started, run_count}
use Rattle.job_calls.specs.Models.{is_live, live_runs}
use Rattle.model_table.specs.Tables.{ender}
use Rattle.growing_lists.specs.Growing.{as_number, any-snoc, count-cons, count-snoc}

-- what passes alike counts alike
count_same : (p q : ℕ → Bool) (a n : ℕ) → ((k : ℕ) → a ≤ k → k < a + n → q k ≡ p k) → count_by q (range_with_len a n) ≡ count_by p (range_with_len a n)
count_same p q a zero same = refl
count_same p q a (suc n) same =
    let rest = count_same p q (a + 1) n (λ k le less. same k (omega (arith, le)) (omega (arith, less))) in
    count-cons q a (range_with_len (a + 1) n)
    ∙ (λ j. as_number (same a (omega arith) (omega arith) j) + rest j)
    ∙ sym (count-cons p a (range_with_len (a + 1) n))

range_more : (a n : ℕ) → range_with_len a (suc n) ≡ range_with_len a n ++ (a + n) ∷ []
range_more a zero = let here : a ≡ a + 0 = omega arith in ap (λ k. k ∷ []) here
range_more a (suc n) =
    let here : (a + 1) + n ≡ a + suc n = omega arith in
    ap (λ ks. a ∷ ks) (range_more (a + 1) n ∙ ap (λ k. range_with_len (a + 1) n ++ k ∷ []) here)

and_yes : (b : Bool) → (b && true) ≡ b
and_yes true = refl
and_yes false = refl

and_no : (b : Bool) → (b && false) ≡ false
and_no true = refl
and_no false = refl

apart : (r k : ℕ) → r ≢ k → nat_eq r k ≡ false
apart r k differ = by (nat_eq r k) refl where
  by : (b : Bool) → nat_eq r k ≡ b → b ≡ false
  by true e = absurd (differ (eqb-true r k e))
  by false e = refl

-- one number that no longer passes
module _ (p q : ℕ → Bool) (r : ℕ) (is : (k : ℕ) → q k ≡ (p k && not (nat_eq r k))) where
  other : (k : ℕ) → r ≢ k → q k ≡ p k
  other k differ = is k ∙ ap (λ b. p k && not b) (apart r k differ) ∙ and_yes (p k)

  gone : q r ≡ false
  gone = is r ∙ ap (λ b. p r && not b) (eq-eqb r r refl) ∙ and_no (p r)

  -- it is none of these
  outside : (a n : ℕ) → a + n ≤ r → count_by q (range_with_len a n) ≡ count_by p (range_with_len a n)
  outside a n past = count_same p q a n (λ k le less. other k (λ e. omega (arith, e, less, past)))

  here_by : (a n : ℕ) → r ≡ a → count_by q (range_with_len a (suc n)) + as_number (p r) ≡ count_by p (range_with_len a (suc n))
  here_by a n e =
      let none : as_number (q a) ≡ 0 = ap (λ k. as_number (q k)) (sym e) ∙ ap as_number gone in
      let one : as_number (p r) ≡ as_number (p a) = ap (λ k. as_number (p k)) e in
      let rest = count_same p q (a + 1) n (λ k le less. other k (λ f. omega (arith, e, f, le))) in
      let x = count-cons q a (range_with_len (a + 1) n) in
      let y = count-cons p a (range_with_len (a + 1) n) in
      omega (arith, none, one, rest, x, y)

  there_by : (a n : ℕ) → r ≢ a → count_by q (range_with_len (a + 1) n) + as_number (p r) ≡ count_by p (range_with_len (a + 1) n)
      → count_by q (range_with_len a (suc n)) + as_number (p r) ≡ count_by p (range_with_len a (suc n))
  there_by a n differ rest =
      let same : as_number (q a) ≡ as_number (p a) = ap as_number (other a differ) in
      let x = count-cons q a (range_with_len (a + 1) n) in
      let y = count-cons p a (range_with_len (a + 1) n) in
      omega (arith, same, rest, x, y)

  -- it is one of these
  inside : (a n : ℕ) → a ≤ r → r < a + n → count_by q (range_with_len a n) + as_number (p r) ≡ count_by p (range_with_len a n)
  inside a zero le less = absurd (omega (arith, le, less))
  inside a (suc n) le less = by (nat_eq r a) refl (λ more. inside (a + 1) n more (omega (arith, less))) where
    by : (b : Bool) → nat_eq r a ≡ b → (a + 1 ≤ r → count_by q (range_with_len (a + 1) n) + as_number (p r) ≡ count_by p (range_with_len (a + 1) n))
        → count_by q (range_with_len a (suc n)) + as_number (p r) ≡ count_by p (range_with_len a (suc n))
    by true e go = here_by a n (eqb-true r a e)
    by false e go =
        let differ : r ≢ a = (λ s. true≢false (sym (eq-eqb r a s) ∙ e)) in there_by a n differ (go (omega (arith, le, differ)))

not_or : (a b : Bool) → not (a || b) ≡ (not a && not b)
not_or true b = refl
not_or false b = refl

or_no : (b : Bool) → (b || false) ≡ b
or_no true = refl
or_no false = refl

ender_is : (k : ℕ) (run : Option ℕ) (call : Call) → (is_run k run && is_finish call) ≡ is_run k (ender run call)
ender_is k (Some run) (Finish end) = and_yes (is_run k (Some run))
ender_is k None (Finish end) = refl
ender_is k run call = and_no (is_run k run)

-- the runs that go on, once one may have ended
ends_by : (n : ℕ) (p q : ℕ → Bool) (o : Option ℕ) → ((k : ℕ) → q k ≡ not (p k || is_run k o))
    → count_by q (range_with_len 0 n) + as_number (option_map_or (λ r. nat_lt r n && not (p r)) o false) ≡ count_by (λ k. not (p k)) (range_with_len 0 n)
ends_by n p q None is =
    let same = count_same (λ k. not (p k)) q 0 n (λ k le less. is k ∙ ap not (or_no (p k))) in omega (arith, same)
ends_by n p q (Some r) is = by (nat_lt r n) refl where
  told : (k : ℕ) → q k ≡ (not (p k) && not (nat_eq r k))
  told k = is k ∙ not_or (p k) (nat_eq r k)

  by : (b : Bool) → nat_lt r n ≡ b → count_by q (range_with_len 0 n) + as_number (b && not (p r)) ≡ count_by (λ k. not (p k)) (range_with_len 0 n)
  by true e = let less = ltb-true r n e in inside (λ k. not (p k)) q r told 0 n (omega arith) (omega (arith, less))
  by false e =
      let more = ltb-false r n e in let same = outside (λ k. not (p k)) q r told 0 n (omega (arith, more)) in omega (arith, same)

-- and once one may have started
starts_by : (n m : ℕ) (p : ℕ → Bool) (b : Bool) → m ≡ n + as_number b
    → count_by p (range_with_len 0 m) ≡ count_by p (range_with_len 0 n) + as_number (b && p n)
starts_by n m p true e =
    let next : m ≡ suc n = omega (arith, e) in
    let here : 0 + n ≡ n = omega arith in
    ap (λ k. count_by p (range_with_len 0 k)) next
    ∙ ap (count_by p) (range_more 0 n)
    ∙ count-snoc p (range_with_len 0 n) (0 + n)
    ∙ ap (λ k. count_by p (range_with_len 0 n) + as_number (p k)) here
starts_by n m p false e =
    let same : m ≡ n = omega (arith, e) in
    let none : count_by p (range_with_len 0 n) ≡ count_by p (range_with_len 0 n) + 0 = omega arith in
    ap (λ k. count_by p (range_with_len 0 k)) same ∙ none

lives_as : (journal : List Entry) → length (live_runs journal) ≡ count_by (λ k. not (is_finished k journal)) (range_with_len 0 (run_count journal))
lives_as journal =
    length-filter (λ k. is_live k journal) (range_with_len 0 (run_count journal))
    ∙ count_same (λ k. not (is_finished k journal)) (λ k. is_live k journal) 0 (run_count journal)
    (λ k le less. ap (λ b. b && not (is_finished k journal)) (lt-ltb k (run_count journal) (omega (arith, less))))

starts-snoc : (journal : List Entry) (e : Entry) → run_count (journal ++ e ∷ []) ≡ run_count journal + as_number (is_started e.reply)
starts-snoc journal e = let count = count-snoc (λ (x : Entry). is_started x.reply) journal e in omega (arith, count)

-- the live runs of a journal, one more entry noted: those that go on, and perhaps one more
pub record Lives (old new : ℕ) (ends starts : Bool) : Type 0 where
  pub going : ℕ
  pub before : going + as_number ends ≡ old
  pub after : new ≡ going + as_number starts

pub lives_noted : (journal : List Entry) (e : Entry)
    → Lives (length (live_runs journal)) (length (live_runs (journal ++ e ∷ [])))
    (option_map_or (λ r. nat_lt r (run_count journal) && not (is_finished r journal)) (ender e.run e.call) false)
    (is_started e.reply && not (is_finished (run_count journal) (journal ++ e ∷ [])))
lives_noted journal e =
    let n = run_count journal in
    let fins : ℕ → Bool = λ k. not (is_finished k (journal ++ e ∷ [])) in
    record {
      going = count_by fins (range_with_len 0 n);
      before = ends_by n (λ k. is_finished k journal) fins (ender e.run e.call)
          (λ k. ap not (any-snoc (λ (x : Entry). is_run k x.run && is_finish x.call) journal e ∙ ap (λ b. is_finished k journal || b) (ender_is k e.run e.call)))
          ∙ sym (lives_as journal);
      after = lives_as (journal ++ e ∷ []) ∙ starts_by n (run_count (journal ++ e ∷ [])) fins (is_started e.reply) (starts-snoc journal e);
    }

-- there are no more live runs than runs
pub few_lives : (journal : List Entry) → length (live_runs journal) ≤ run_count journal
few_lives journal =
    let all = count_by-le-length (λ k. not (is_finished k journal)) (range_with_len 0 (run_count journal)) in
    let long = length-range_with_len 0 (run_count journal) in
    let same = lives_as journal in
    omega (arith, all, long, same)
