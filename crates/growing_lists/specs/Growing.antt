-- Lists that grow at the back: what is last given, found or counted, once there is one element more.

use Rattle.std.specs.Prelude.{count_by, flat_map, if◌then◌else◌}
use Rattle.std.specs.List.{list_any, enumerate_from}
use Rattle.std.proofs.Common.{◌≡◌, ℕ, suc, ◌+◌, Bool, true, false, cond, ◌||◌, List, [], ◌∷◌, ◌++◌, Option, Some, None, refl, sym, ap, ◌∙◌, length, append-nil, append_assoc}
use Rattle.std.proofs.Math.Bool.{or-false}
use Rattle.std.proofs.Math.Nat.{add-zero, zero-add, add_assoc}
use Rattle.std.proofs.Math.Numerals.{one-add}
use Rattle.std.proofs.lemmas.Grind.{flat_map-append}
use Rattle.std.proofs.lemmas.List.Folds.{list_any-append}
use Rattle.std.proofs.lemmas.List.Sums.{sum_by-append, sum_by-cons}
use Rattle.job_calls.specs.declared.entry.Entry.{Entry}
use Rattle.job_calls.specs.Runs.{last_of, last_given}
use Rattle.job_calls.specs.Moments.{moments_from, moments}
use Rattle.job_calls.specs.Blocks.{last_place}

-- nothing before
later_none : {A : Type 0} (a : Option A) → last_of None a ≡ a
later_none None = refl
later_none (Some x) = refl

-- the last of three
later_assoc : {A : Type 0} (a b c : Option A) → last_of (last_of a b) c ≡ last_of a (last_of b c)
later_assoc a b None = refl
later_assoc a b (Some x) = refl

-- what is last given
pub last_given-snoc : {A B : Type 0} (give : A → Option B) (xs : List A) (x : A)
    → last_given give (xs ++ x ∷ []) ≡ last_of (last_given give xs) (give x)
last_given-snoc give [] x = sym (later_none (give x))
last_given-snoc give (y ∷ ys) x =
    ap (last_of (give y)) (last_given-snoc give ys x) ∙ sym (later_assoc (give y) (last_given give ys) (give x))

-- a place further on
place_on : (n m : ℕ) → n + 1 + m ≡ n + suc m
place_on n m = add_assoc n 1 m ∙ ap (λ k. n + k) (one-add m)

-- the elements with their places
enumerate-snoc : {A : Type 0} (n : ℕ) (xs : List A) (x : A)
    → enumerate_from n (xs ++ x ∷ []) ≡ enumerate_from n xs ++ (n + length xs, x) ∷ []
enumerate-snoc n [] x = ap (λ m. (m, x) ∷ []) (sym (add-zero n))
enumerate-snoc n (y ∷ ys) x =
    ap (λ rest. (n, y) ∷ rest)
    (enumerate-snoc (n + 1) ys x ∙ ap (λ m. enumerate_from (n + 1) ys ++ (m, x) ∷ []) (place_on n (length ys)))

-- a place that is given, or not
later_if : (b : Bool) (n : ℕ) (o : Option ℕ) → last_of o (if b then Some n else None) ≡ (if b then Some n else o)
later_if true n o = refl
later_if false n o = refl

-- the last place that passes
pub last_place-snoc : (test : Entry → Bool) (es : List Entry) (e : Entry)
    → last_place test (es ++ e ∷ []) ≡ (if test e then Some (length es) else last_place test es)
last_place-snoc test es e =
    let give : ℕ × Entry → Option ℕ = λ p. if test p.1 then Some p.0 else None in
    ap (last_given give) (enumerate-snoc 0 es e)
    ∙ last_given-snoc give (enumerate_from 0 es) (0 + length es, e)
    ∙ later_if (test e) (0 + length es) (last_place test es)
    ∙ ap (λ n. if test e then Some n else last_place test es) (zero-add (length es))

-- 1 where it holds
abbrev pub as_number : Bool → ℕ
as_number true = 1
as_number false = 0

-- a count from nothing
sum_one : (b : Bool) → 0 + cond b 1 0 ≡ as_number b
sum_one true = refl
sum_one false = refl

-- a choice of 1 or 0
cond_number : (b : Bool) → cond b 1 0 ≡ as_number b
cond_number true = refl
cond_number false = refl

-- how many pass
pub count-snoc : {A : Type 0} (p : A → Bool) (xs : List A) (x : A) → count_by p (xs ++ x ∷ []) ≡ count_by p xs + as_number (p x)
count-snoc p xs x = sum_by-append (λ y. cond (p y) 1 0) xs (x ∷ []) ∙ ap (λ n. count_by p xs + n) (sum_one (p x))

-- how many pass, with one more in front
pub count-cons : {A : Type 0} (p : A → Bool) (x : A) (xs : List A) → count_by p (x ∷ xs) ≡ as_number (p x) + count_by p xs
count-cons p x xs = sum_by-cons (λ y. cond (p y) 1 0) x xs ∙ ap (λ n. n + count_by p xs) (cond_number (p x))

-- whether some passes
pub any-snoc : {A : Type 0} (p : A → Bool) (xs : List A) (x : A) → list_any p (xs ++ x ∷ []) ≡ (list_any p xs || p x)
any-snoc p xs x = list_any-append p xs (x ∷ []) ∙ ap (λ b. list_any p xs || b) (or-false (p x))

-- the parts of all, put together
pub flat_map-snoc : {A B : Type 0} (f : A → List B) (xs : List A) (x : A) → flat_map f (xs ++ x ∷ []) ≡ flat_map f xs ++ f x
flat_map-snoc f xs x = flat_map-append f xs (x ∷ []) ∙ ap (λ ys. flat_map f xs ++ ys) (append-nil (f x))

-- the moments of two parts
moments_from-append : (before xs ys : List Entry)
    → moments_from before (xs ++ ys) ≡ moments_from before xs ++ moments_from (before ++ xs) ys
moments_from-append before [] ys = ap (λ b. moments_from b ys) (sym (append-nil before))
moments_from-append before (x ∷ xs) ys =
    ap (λ rest. record { before = before; entry = x } ∷ rest)
    (moments_from-append (before ++ x ∷ []) xs ys
    ∙ ap (λ b. moments_from (before ++ x ∷ []) xs ++ moments_from b ys) (append_assoc before (x ∷ []) xs))

-- one entry more is one moment more
pub moments-snoc : (xs : List Entry) (e : Entry) → moments (xs ++ e ∷ []) ≡ moments xs ++ record { before = xs; entry = e } ∷ []
moments-snoc xs e = moments_from-append [] xs (e ∷ [])
