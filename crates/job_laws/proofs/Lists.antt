-- Lists: what stands at a place, and what was last given.

use Rattle.std.proofs.Common.{◌≡◌, ℕ, suc, ◌+◌, Bool, true, false, ◌||◌, List, [], ◌∷◌, ◌++◌, Option, Some, None, refl, sym, ap, ◌∙◌, length, arith}
use Rattle.std.specs.Prelude.{slice_get, is_some}
use Rattle.std.specs.List.{enumerate_from, list_any}
use Rattle.job_calls.specs.Runs.{last_of, last_given}
use Rattle.job_laws.proofs.Outcomes.{false_true}

pub none_some : {A B : Type 0} (x : A) → None ≡ Some x → B
none_some x e = absurd (false_true (ap is_some e))

pub later_none : {A : Type 0} (a : Option A) → last_of None a ≡ a
later_none None = refl
later_none (Some x) = refl

later_assoc : {A : Type 0} (a b c : Option A) → last_of (last_of a b) c ≡ last_of a (last_of b c)
later_assoc a b None = refl
later_assoc a b (Some x) = refl

-- one more element
pub last_given-snoc : {A B : Type 0} (give : A → Option B) (xs : List A) (x : A)
    → last_given give (xs ++ x ∷ []) ≡ last_of (last_given give xs) (give x)
last_given-snoc give [] x = sym (later_none (give x))
last_given-snoc give (y ∷ ys) x = ap (last_of (give y)) (last_given-snoc give ys x) ∙ sym (later_assoc (give y) (last_given give ys) (give x))

pub enumerate-snoc : {A : Type 0} (n : ℕ) (xs : List A) (x : A) → enumerate_from n (xs ++ x ∷ []) ≡ enumerate_from n xs ++ (n + length xs, x) ∷ []
enumerate-snoc n [] x = let e : n ≡ n + 0 = omega arith in ap (λ m. (m, x) ∷ []) e
enumerate-snoc n (y ∷ ys) x =
    let e : n + 1 + length ys ≡ n + suc (length ys) = omega arith in
    ap (λ rest. (n, y) ∷ rest) (enumerate-snoc (n + 1) ys x ∙ ap (λ m. enumerate_from (n + 1) ys ++ (m, x) ∷ []) e)

-- what stands behind so many elements
pub get_behind : {A : Type 0} (xs : List A) (y : A) (ys : List A) → slice_get (xs ++ y ∷ ys) (length xs) ≡ Some y
get_behind [] y ys = refl
get_behind (x ∷ xs) y ys = get_behind xs y ys

abbrev pub head_or : {A : Type 0} → A → List A → A
head_or d [] = d
head_or d (x ∷ xs) = x

abbrev pub tail_of : {A : Type 0} → List A → List A
tail_of [] = []
tail_of (x ∷ xs) = xs

abbrev pub some_or : {A : Type 0} → A → Option A → A
some_or d None = d
some_or d (Some x) = x

pub some_is : {A : Type 0} (x y : A) → Some x ≡ Some y → x ≡ y
some_is x y e = ap (some_or x) e

-- the first element
pub first_is : {A : Type 0} (xs : List A) (x : A) → slice_get xs 0 ≡ Some x → xs ≡ x ∷ tail_of xs
first_is [] x e = none_some x e
first_is (y ∷ ys) x e = ap (λ z. z ∷ ys) (some_is y x e)

-- one list cut twice at one place
pub same_cut : {A : Type 0} (xs ys us vs : List A) (x y : A) → xs ++ x ∷ us ≡ ys ++ y ∷ vs → length xs ≡ length ys → (xs ≡ ys) × (x ≡ y)
same_cut [] [] us vs x y e l = (refl, ap (head_or x) e)
same_cut [] (b ∷ ys) us vs x y e l = absurd (omega (arith, l))
same_cut (a ∷ xs) [] us vs x y e l = absurd (omega (arith, l))
same_cut (a ∷ xs) (b ∷ ys) us vs x y e l =
    let rest = same_cut xs ys us vs x y (ap tail_of e) (omega (arith, l)) in
    let h : a ≡ b = ap (head_or a) e in
    (ap (λ z. z ∷ xs) h ∙ ap (λ zs. b ∷ zs) rest.0, rest.1)

-- a list cut at one that passes
pub record AnyCut {A : Type 0} (test : A → Bool) (xs : List A) : Type 0 where
  pub before : List A
  pub at : A
  pub after : List A
  pub cut : xs ≡ before ++ at ∷ after
  pub passes : test at ≡ true

cut_here : {A : Type 0} (test : A → Bool) (x : A) (xs : List A) (b : Bool) → test x ≡ b → (b || list_any test xs) ≡ true
    → (list_any test xs ≡ true → AnyCut test xs) → AnyCut test (x ∷ xs)
cut_here test x xs true is e go = record { before = []; at = x; after = xs; cut = refl; passes = is }
cut_here test x xs false is e go =
    let c = go e in
    record { before = x ∷ c.before; at = c.at; after = c.after; cut = ap (λ ys. x ∷ ys) c.cut; passes = c.passes }

pub any_cut : {A : Type 0} (test : A → Bool) (xs : List A) → list_any test xs ≡ true → AnyCut test xs
any_cut test [] e = absurd (false_true e)
any_cut test (x ∷ xs) e = cut_here test x xs (test x) refl e (any_cut test xs)
