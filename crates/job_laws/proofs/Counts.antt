-- Counts of a journal's entries, one entry more; and of the entries of each lane, put together.

use Rattle.std.proofs.Common.{◌≡◌, ◌≢◌, ◌≤◌, ◌<◌, ℕ, suc, zero, ◌+◌, Bool, true, false, not, ◌||◌, List, [], ◌∷◌, ◌++◌, refl, sym, ap, ◌∙◌, subst, inl, inr, ◌⊎◌, nat_eq, cond, append-nil, arith}
use Rattle.std.specs.Prelude.{count_by, Option, Some, filter, map}
use Rattle.std.specs.List.{list_any}
use Rattle.std.proofs.lemmas.Bool.{eq-eqb, ne_eqb}
use Rattle.std.proofs.lemmas.Bool.Decides.{eqb_tells}
use Rattle.std.proofs.Math.Bool.{or-false}
use Rattle.std.proofs.lemmas.List.Sums.{sum_by-append, sum_by-cons}
use Rattle.std.proofs.lemmas.List.Folds.{list_any-append}
use Rattle.std.proofs.lemmas.List.{map-append}
use Rattle.std.proofs.lemmas.List.Elements.{filter-append}
use Rattle.job_calls.specs.declared.entry.Entry.{Entry}
use Rattle.job_calls.specs.Entries.{is_run, own_entries}
use Rattle.job_calls.specs.Fitting.{exchange_of}

abbrev pub as_number : Bool → ℕ
as_number true = 1
as_number false = 0

cond_number : (b : Bool) → cond b 1 0 ≡ as_number b
cond_number true = refl
cond_number false = refl

sum_one : (b : Bool) → 0 + cond b 1 0 ≡ as_number b
sum_one true = refl
sum_one false = refl

-- how many entries pass, one more looked at
pub count-snoc : {A : Type 0} (p : A → Bool) (es : List A) (e : A) → count_by p (es ++ e ∷ []) ≡ count_by p es + as_number (p e)
count-snoc p es e = sum_by-append (λ x. cond (p x) 1 0) es (e ∷ []) ∙ ap (λ n. count_by p es + n) (sum_one (p e))

pub count-cons : {A : Type 0} (p : A → Bool) (e : A) (es : List A) → count_by p (e ∷ es) ≡ as_number (p e) + count_by p es
count-cons p e es = sum_by-cons (λ x. cond (p x) 1 0) e es ∙ ap (λ n. n + count_by p es) (cond_number (p e))

-- whether some entry passes, one more looked at
pub any-snoc : {A : Type 0} (p : A → Bool) (es : List A) (e : A) → list_any p (es ++ e ∷ []) ≡ (list_any p es || p e)
any-snoc p es e = list_any-append p es (e ∷ []) ∙ ap (λ b. list_any p es || b) (or-false (p e))

-- what passes at most once
abbrev pub AtMostOnce : {A : Type 0} → (A → Bool) → List A → Type 0
AtMostOnce p es = count_by p es + as_number (not (list_any p es)) ≤ 1

once_by : (n m : ℕ) (any this : Bool) → any ≡ false → n + as_number (not any) ≤ 1 → m ≡ n + as_number this → m + as_number (not (any || this)) ≤ 1
once_by n m true this none h e = absurd (apart none) where
  apart : true ≡ false → ⊥
  apart q = cc
once_by n m false true none h e = omega (arith, h, e)
once_by n m false false none h e = omega (arith, h, e)

-- where none passed, the next may
pub once_more : {A : Type 0} (p : A → Bool) (es : List A) (e : A) → list_any p es ≡ false → AtMostOnce p es → AtMostOnce p (es ++ e ∷ [])
once_more p es e none h =
    subst (λ b. count_by p (es ++ e ∷ []) + as_number (not b) ≤ 1) (sym (any-snoc p es e))
    (once_by (count_by p es) (count_by p (es ++ e ∷ [])) (list_any p es) (p e) none h (count-snoc p es e))

same_by : (n m : ℕ) (any this : Bool) → this ≡ false → n + as_number (not any) ≤ 1 → m ≡ n + as_number this → m + as_number (not (any || this)) ≤ 1
same_by n m any true fails h e = absurd (apart fails) where
  apart : true ≡ false → ⊥
  apart q = cc
same_by n m any false fails h e = subst (λ b. m + as_number (not b) ≤ 1) (sym (or-false any)) (let z : m ≡ n = omega (arith, e) in omega (arith, h, z))

-- where the next does not pass, all stays
pub once_same : {A : Type 0} (p : A → Bool) (es : List A) (e : A) → p e ≡ false → AtMostOnce p es → AtMostOnce p (es ++ e ∷ [])
once_same p es e fails h =
    subst (λ b. count_by p (es ++ e ∷ []) + as_number (not b) ≤ 1) (sym (any-snoc p es e))
    (same_by (count_by p es) (count_by p (es ++ e ∷ [])) (list_any p es) (p e) fails h (count-snoc p es e))

-- the sum over so many lanes
abbrev pub total : ℕ → (ℕ → ℕ) → ℕ
total zero f = 0
total (suc n) f = total n f + f n

pub total_le : (n : ℕ) (f g : ℕ → ℕ) → ((l : ℕ) → f l ≤ g l) → total n f ≤ total n g
total_le zero f g h = omega arith
total_le (suc n) f g h = let a = total_le n f g h in let b = h n in omega (arith, a, b)

pub total_same : (n c : ℕ) (f : ℕ → ℕ) → ((l : ℕ) → f l ≤ c) → c ≤ 1 → total n f ≤ n
total_same zero c f h small = omega arith
total_same (suc n) c f h small = let a = total_same n c f h small in let b = h n in omega (arith, a, b, small)

total_none : (n : ℕ) → total n (λ l. 0) ≡ 0
total_none zero = refl
total_none (suc n) = let a = total_none n in omega (arith, a)

-- one lane's more
total_more : (n lane c : ℕ) (f g : ℕ → ℕ) → g lane ≡ c + f lane → ((l : ℕ) → lane ≢ l → g l ≡ f l)
    → ((n ≤ lane) × (total n g ≡ total n f)) ⊎ ((lane < n) × (total n g ≡ c + total n f))
total_more zero lane c f g at off = inl (omega arith, refl)
total_more (suc n) lane c f g at off =
    elim (total_more n lane c f g at off) [
      | inl h ↦ elim (eqb_tells lane n) [
        | inl q ↦ inr (let e = q.1 in omega (arith, e), let z : g n ≡ c + f n = subst (λ m. g m ≡ c + f m) q.1 at in let s = h.1 in omega (arith, z, s))
        | inr q ↦ inl (let e = q.1 in let l = h.0 in omega (arith, e, l), let z = off n q.1 in let s = h.1 in omega (arith, z, s))
      ]
      | inr h ↦ inr (let l = h.0 in omega (arith, l), let l = h.0 in let z = off n (λ e. absurd (omega (arith, l, e))) in let s = h.1 in omega (arith, z, s))
    ]

-- all entries are of so many lanes
abbrev pub AllBelow : ℕ → List Entry → Type 0
AllBelow n [] = Unit {0}
AllBelow n (e ∷ es) = (e.lane < n) × AllBelow n es

pub own-cons-same : (e : Entry) (es : List Entry) → own_entries e.lane (e ∷ es) ≡ e ∷ own_entries e.lane es
own-cons-same e es = ap (λ b. cond b (e ∷ own_entries e.lane es) (own_entries e.lane es)) (eq-eqb e.lane e.lane refl)

pub own-cons-other : (lane : ℕ) (e : Entry) (es : List Entry) → e.lane ≢ lane → own_entries lane (e ∷ es) ≡ own_entries lane es
own-cons-other lane e es apart = ap (λ b. cond b (e ∷ own_entries lane es) (own_entries lane es)) (ne_eqb e.lane lane apart)

-- the lanes' counts make up the whole count
pub count_parts : (p : Entry → Bool) (n : ℕ) (es : List Entry) → AllBelow n es → total n (λ l. count_by p (own_entries l es)) ≡ count_by p es
count_parts p n [] all = total_none n
count_parts p n (e ∷ es) all =
    let rest = count_parts p n es all.1 in
    let less = all.0 in
    let whole = count-cons p e es in
    elim (total_more n e.lane (as_number (p e)) (λ l. count_by p (own_entries l es)) (λ l. count_by p (own_entries l (e ∷ es)))
    (ap (count_by p) (own-cons-same e es) ∙ count-cons p e (own_entries e.lane es))
    (λ l apart. ap (count_by p) (own-cons-other l e es apart))) [
      | inl h ↦ absurd (let l = h.0 in omega (arith, l, less))
      | inr h ↦ let s = h.1 in s ∙ ap (λ m. as_number (p e) + m) rest ∙ sym whole
    ]

-- a lane's own entries, one entry more
pub own-snoc-same : (es : List Entry) (e : Entry) → own_entries e.lane (es ++ e ∷ []) ≡ own_entries e.lane es ++ e ∷ []
own-snoc-same es e =
    filter-append (λ (x : Entry). nat_eq x.lane e.lane) es (e ∷ [])
    ∙ ap (λ b. own_entries e.lane es ++ cond b (e ∷ []) []) (eq-eqb e.lane e.lane refl)

pub own-snoc-other : (lane : ℕ) (es : List Entry) (e : Entry) → e.lane ≢ lane → own_entries lane (es ++ e ∷ []) ≡ own_entries lane es
own-snoc-other lane es e apart =
    filter-append (λ (x : Entry). nat_eq x.lane lane) es (e ∷ [])
    ∙ ap (λ b. own_entries lane es ++ cond b (e ∷ []) []) (ne_eqb e.lane lane apart)
    ∙ append-nil (own_entries lane es)

pub AllBelow-snoc : (n : ℕ) (es : List Entry) (e : Entry) → AllBelow n es → e.lane < n → AllBelow n (es ++ e ∷ [])
AllBelow-snoc n [] e all less = (less, tt)
AllBelow-snoc n (x ∷ xs) e all less = (all.0, AllBelow-snoc n xs e all.1 less)

either_number : (a b : Bool) → as_number (a || b) ≤ as_number a + as_number b
either_number true b = omega arith
either_number false b = omega arith

-- what passes one of two tests passes the first or the second
pub count_either : {A : Type 0} (p q : A → Bool) (es : List A) → count_by (λ e. p e || q e) es ≤ count_by p es + count_by q es
count_either p q [] = omega arith
count_either p q (e ∷ es) =
    let rest = count_either p q es in
    let a = count-cons (λ x. p x || q x) e es in
    let b = count-cons p e es in
    let d = count-cons q e es in
    let one = either_number (p e) (q e) in
    omega (arith, rest, a, b, d, one)

pub is_run-by : (k : ℕ) (o : Option ℕ) → o ≡ Some k → is_run k o ≡ true
is_run-by k o e = ap (is_run k) e ∙ eq-eqb k k refl

exchange_more : (k : ℕ) (es : List Entry) (e : Entry) (b : Bool) → is_run k e.run ≡ b
    → exchange_of k (es ++ e ∷ []) ≡ exchange_of k es ++ map (λ (x : Entry). (x.call, x.reply)) (cond b (e ∷ []) [])
exchange_more k es e b is =
    ap (map (λ (x : Entry). (x.call, x.reply))) (filter-append (λ (x : Entry). is_run k x.run) es (e ∷ []))
    ∙ map-append (λ (x : Entry). (x.call, x.reply)) (filter (λ (x : Entry). is_run k x.run) es) (filter (λ (x : Entry). is_run k x.run) (e ∷ []))
    ∙ ap (λ c. exchange_of k es ++ map (λ (x : Entry). (x.call, x.reply)) (cond c (e ∷ []) [])) is

-- what a run called and was told, one entry more: its own, or another's
pub exchange-snoc : (k : ℕ) (es : List Entry) (e : Entry) → is_run k e.run ≡ true → exchange_of k (es ++ e ∷ []) ≡ exchange_of k es ++ (e.call, e.reply) ∷ []
exchange-snoc k es e is = exchange_more k es e true is

pub exchange-same : (k : ℕ) (es : List Entry) (e : Entry) → is_run k e.run ≡ false → exchange_of k (es ++ e ∷ []) ≡ exchange_of k es
exchange-same k es e is = exchange_more k es e false is ∙ append-nil (exchange_of k es)
