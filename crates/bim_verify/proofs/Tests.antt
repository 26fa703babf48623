-- Tests that stand for facts, and breaches that are none.

use Rattle.std.proofs.Common.{◌≡◌, ◌<◌, ◌≤◌, ℕ, suc, Bool, true, false, List, [], ◌∷◌, ◌++◌, refl, nat_eq, nat_lt, nat_le, All, arith}
use Rattle.std.specs.Prelude.{◌&&◌}
use Rattle.std.specs.List.{list_all}
use Rattle.std.proofs.lemmas.Bool.Decides.{nat_tests}
use Rattle.std.proofs.lemmas.List.Elements.{All-cons, All-nil, All-head}
use Rattle.bim_rules.specs.declared.breach.Breach.{Breach}
use Rattle.bim_rules.specs.declared.breach.Rule.{Rule}
use Rattle.bim_rules.specs.declared.breach.Table.{Table}
use Rattle.bim_rules.specs.Breaches.{mark}

-- Truths and lists.

pub first_half : (s t : Bool) → (s && t) ≡ true → s ≡ true
first_half true t e = refl
first_half false t e = e

pub second_half : (s t : Bool) → (s && t) ≡ true → t ≡ true
second_half true t e = e
second_half false t e = cc

pub both_halves : (s t : Bool) → s ≡ true → t ≡ true → (s && t) ≡ true
both_halves true t d e = e
both_halves false t d e = cc

pub first_none : (xs ys : List Breach) → xs ++ ys ≡ [] → xs ≡ []
first_none [] ys e = refl
first_none (x ∷ xs) ys e = cc

pub second_none : (xs ys : List Breach) → xs ++ ys ≡ [] → ys ≡ []
second_none [] ys e = e
second_none (x ∷ xs) ys e = cc

pub both_none : (xs ys : List Breach) → xs ≡ [] → ys ≡ [] → xs ++ ys ≡ []
both_none [] ys d e = e
both_none (x ∷ xs) ys d e = cc

pub unmarked : (rule : Rule) (table : Table) (at : ℕ) (kept : Bool) → mark rule table at kept ≡ [] → kept ≡ true
unmarked rule table at true e = refl
unmarked rule table at false e = cc

pub no_mark : (rule : Rule) (table : Table) (at : ℕ) (kept : Bool) → kept ≡ true → mark rule table at kept ≡ []
no_mark rule table at true e = refl
no_mark rule table at false e = cc

-- a test that stands for a fact
pub record StandsFor {A : Type 0} (test : A → Bool) (P : A → Type 0) : Type 0 where
  pub holds : (x : A) → test x ≡ true → P x
  pub told : (x : A) → P x → test x ≡ true

pub all_hold : {A : Type 0} (test : A → Bool) (P : A → Type 0) → StandsFor test P → (xs : List A) → list_all test xs ≡ true → All P xs
all_hold test P s [] e = All-nil P
all_hold test P s (x ∷ xs) e =
    All-cons P x xs (s.holds x (first_half (test x) (list_all test xs) e)) (all_hold test P s xs (second_half (test x) (list_all test xs) e))

pub all_told : {A : Type 0} (test : A → Bool) (P : A → Type 0) → StandsFor test P → (xs : List A) → All P xs → list_all test xs ≡ true
all_told test P s [] h = refl
all_told test P s (x ∷ xs) h =
    both_halves (test x) (list_all test xs) (s.told x (All-head P x xs h)) (all_told test P s xs (λ k d within. h (suc k) d (omega (arith, within))))

pub below : (a b : ℕ) → nat_lt a b ≡ true → a < b
below a b e = grind (arith, nat_tests, e)

pub is_below : (a b : ℕ) → a < b → nat_lt a b ≡ true
is_below a b l = grind (arith, nat_tests, l)

pub at_most : (a b : ℕ) → nat_le a b ≡ true → a ≤ b
at_most a b e = grind (arith, nat_tests, e)

pub is_at_most : (a b : ℕ) → a ≤ b → nat_le a b ≡ true
is_at_most a b l = grind (arith, nat_tests, l)

pub same_number : (a b : ℕ) → nat_eq a b ≡ true → a ≡ b
same_number a b e = grind (arith, nat_tests, e)

pub is_same_number : (a b : ℕ) → a ≡ b → nat_eq a b ≡ true
is_same_number a b e = grind (arith, nat_tests, e)
