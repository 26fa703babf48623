-- What was last given, as a fold; a fold that takes away, as a sum.
use Rattle.std.proofs.Common.{◌≡◌, ℕ, ◌+◌, ◌-◌, List, [], ◌∷◌, ◌++◌, Option, Some, None, refl, sym, ap, ◌∙◌, length, arith, cond}
use Rattle.std.specs.Prelude.{Bool, true, false, ◌||◌, ◌&&◌, if◌then◌else◌, filter, fold, flat_map, map, sum_by}
use Rattle.std.specs.List.{list_any}
use Rattle.std.specs.Option.{option_or}
use Rattle.std.specs.Bool.{then_some}
use Rattle.std.proofs.lemmas.List.{length-append}
use Rattle.job_calls.specs.Runs.{last_of, last_given}

later_assoc : {A : Type 0} (a b c : Option A) → last_of (last_of a b) c ≡ last_of a (last_of b c)
later_assoc a b None = refl
later_assoc a b (Some x) = refl

later_none : {A : Type 0} (a : Option A) → last_of None a ≡ a
later_none None = refl
later_none (Some x) = refl

-- the first, or else the second, the other way round
pub or_later : {A : Type 0} (a b : Option A) → option_or b a ≡ last_of a b
or_later a None = refl
or_later a (Some x) = refl

fold_later : {A B : Type 0} (give : A → Option B) (acc : Option B) (xs : List A)
    → fold (λ found x. option_or (give x) found) acc xs ≡ last_of acc (last_given give xs)
fold_later give acc [] = refl
fold_later give acc (x ∷ xs) =
    fold_later give (option_or (give x) acc) xs
    ∙ ap (λ a. last_of a (last_given give xs)) (or_later acc (give x))
    ∙ later_assoc acc (give x) (last_given give xs)

-- a fold that keeps what was given last
pub fold_given : {A B : Type 0} (give : A → Option B) (xs : List A)
    → fold (λ found x. option_or (give x) found) None xs ≡ last_given give xs
fold_given give xs = fold_later give None xs ∙ later_none (last_given give xs)

-- one more element
pub last_given-snoc : {A B : Type 0} (give : A → Option B) (xs : List A) (x : A)
    → last_given give (xs ++ x ∷ []) ≡ last_of (last_given give xs) (give x)
last_given-snoc give [] x = sym (later_none (give x))
last_given-snoc give (y ∷ ys) x = ap (last_of (give y)) (last_given-snoc give ys x) ∙ sym (later_assoc (give y) (last_given give ys) (give x))

sub_sub : (n a b : ℕ) → (n - a) - b ≡ n - (a + b)
sub_sub n a b = omega arith

less_from : {A : Type 0} (part : A → ℕ) (n a : ℕ) (xs : List A)
    → fold (λ left x. left - part x) (n - a) xs ≡ n - fold (λ sum x. sum + part x) a xs
less_from part n a [] = refl
less_from part n a (x ∷ xs) =
    ap (λ m. fold (λ left x. left - part x) m xs) (sub_sub n a (part x)) ∙ less_from part n (a + part x) xs

-- what is left of n, after each element took its part away
pub fold_less : {A : Type 0} (part : A → ℕ) (n : ℕ) (xs : List A)
    → fold (λ left x. left - part x) n xs ≡ n - sum_by part xs
fold_less part n xs =
    let e : n ≡ n - 0 = omega arith in
    ap (λ m. fold (λ left x. left - part x) m xs) e ∙ less_from part n 0 xs

pub fold_less_bytes : {A B : Type 0} (part : A → List B) (n : ℕ) (xs : List A)
    → fold (λ left x. left - length (part x)) n xs ≡ n - length (flat_map part xs)
fold_less_bytes part n [] = let e : n ≡ n - 0 = omega arith in e
fold_less_bytes part n (x ∷ xs) =
    fold_less_bytes part (n - length (part x)) xs
    ∙ sub_sub n (length (part x)) (length (flat_map part xs))
    ∙ ap (λ m. n - m) (sym (length-append (part x) (flat_map part xs)))

-- a test of what is made of each
pub any-map : {A B : Type 0} (test : B → Bool) (f : A → B) (xs : List A) → list_any test (map f xs) ≡ list_any (λ x. test (f x)) xs
any-map test f [] = refl
any-map test f (x ∷ xs) = ap (λ b. test (f x) || b) (any-map test f xs)

-- elements that pass one test, and then another
pub filter_twice : {A : Type 0} (p q : A → Bool) (xs : List A) → filter p (filter q xs) ≡ filter (λ x. q x && p x) xs
filter_twice p q [] = refl
filter_twice p q (x ∷ xs) = by (q x) (filter_twice p q xs) where
  by : (b : Bool) → filter p (filter q xs) ≡ filter (λ x. q x && p x) xs
      → filter p (cond b (x ∷ filter q xs) (filter q xs)) ≡ cond (b && p x) (x ∷ filter (λ x. q x && p x) xs) (filter (λ x. q x && p x) xs)
  by true rest = ap (λ ys. cond (p x) (x ∷ ys) ys) rest
  by false rest = rest

-- a value where the test holds
pub then_if : {A : Type 0} (b : Bool) (x : A) → then_some b x ≡ (if b then Some x else None)
then_if true x = refl
then_if false x = refl
