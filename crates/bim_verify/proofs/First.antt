-- What is found first is one of the breaches, and none comes before it.

use Rattle.std.proofs.Common.{◌≡◌, ◌<◌, ◌≤◌, ℕ, Bool, true, false, List, [], ◌∷◌, ◌++◌, Option, Some, None, refl, All, nat_eq, nat_lt, arith, zero, suc, subst}
use Rattle.std.specs.Prelude.{if◌then◌else◌}
use Rattle.std.specs.List.{Contains}
use Rattle.std.proofs.lemmas.Bool.Decides.{nat_tests}
use Rattle.std.proofs.lemmas.List.Elements.{All-cons, All-nil}
use Rattle.bim_code.specs.declared.image.Image.{Image}
use Rattle.bim_rules.specs.declared.breach.Breach.{Breach}
use Rattle.bim_rules.specs.Breaches.{comes_before, earlier, first_of, rule_number, table_number}
use Rattle.bim_verify.specs.Verified.{breaches, IsFirstBreach}

pub first_append : (found : Option Breach) (xs ys : List Breach) → first_of found (xs ++ ys) ≡ first_of (first_of found xs) ys
first_append found [] ys = refl
first_append found (b ∷ xs) ys = first_append (earlier found b) xs ys

-- once something is found, something is
still_found : (a : Breach) (bs : List Breach) → first_of (Some a) bs ≡ None → ⊥
still_found a [] e = cc
still_found a (b ∷ bs) e = by (comes_before b a) e (still_found b bs) (still_found a bs)
  where
    by : (test : Bool) → first_of (if test then Some b else Some a) bs ≡ None → (first_of (Some b) bs ≡ None → ⊥) → (first_of (Some a) bs ≡ None → ⊥) → ⊥
    by true h if_so if_not = if_so h
    by false h if_so if_not = if_not h

pub none_found : (bs : List Breach) → first_of None bs ≡ None → bs ≡ []
none_found [] e = refl
none_found (b ∷ bs) e = absurd (still_found b bs e)

-- The order by three numbers, one after the other.

abbrev by_three : (a1 a2 a3 b1 b2 b3 : ℕ) → Bool
by_three a1 a2 a3 b1 b2 b3 = if nat_eq a1 b1 then (if nat_eq a2 b2 then nat_lt a3 b3 else nat_lt a2 b2) else nat_lt a1 b1

data Less (a1 a2 a3 b1 b2 b3 : ℕ) : Type 0 where
  by_first : a1 < b1 → Less a1 a2 a3 b1 b2 b3
  by_second : a1 ≡ b1 → a2 < b2 → Less a1 a2 a3 b1 b2 b3
  by_third : a1 ≡ b1 → a2 ≡ b2 → a3 < b3 → Less a1 a2 a3 b1 b2 b3

data AtLeast (a1 a2 a3 b1 b2 b3 : ℕ) : Type 0 where
  over_first : b1 < a1 → AtLeast a1 a2 a3 b1 b2 b3
  over_second : a1 ≡ b1 → b2 < a2 → AtLeast a1 a2 a3 b1 b2 b3
  over_third : a1 ≡ b1 → a2 ≡ b2 → b3 ≤ a3 → AtLeast a1 a2 a3 b1 b2 b3

less_is : (a1 a2 a3 b1 b2 b3 : ℕ) → by_three a1 a2 a3 b1 b2 b3 ≡ true → Less a1 a2 a3 b1 b2 b3
less_is a1 a2 a3 b1 b2 b3 h = by (nat_eq a1 b1) (nat_eq a2 b2) refl refl h
  where
    by : (s t : Bool) → nat_eq a1 b1 ≡ s → nat_eq a2 b2 ≡ t → (if s then (if t then nat_lt a3 b3 else nat_lt a2 b2) else nat_lt a1 b1) ≡ true → Less a1 a2 a3 b1 b2 b3
    by true true e1 e2 k = by_third (grind (arith, nat_tests, e1)) (grind (arith, nat_tests, e2)) (grind (arith, nat_tests, k))
    by true false e1 e2 k = by_second (grind (arith, nat_tests, e1)) (grind (arith, nat_tests, k))
    by false t e1 e2 k = by_first (grind (arith, nat_tests, k))

at_least_is : (a1 a2 a3 b1 b2 b3 : ℕ) → by_three a1 a2 a3 b1 b2 b3 ≡ false → AtLeast a1 a2 a3 b1 b2 b3
at_least_is a1 a2 a3 b1 b2 b3 h = by (nat_eq a1 b1) (nat_eq a2 b2) refl refl h
  where
    by : (s t : Bool) → nat_eq a1 b1 ≡ s → nat_eq a2 b2 ≡ t → (if s then (if t then nat_lt a3 b3 else nat_lt a2 b2) else nat_lt a1 b1) ≡ false → AtLeast a1 a2 a3 b1 b2 b3
    by true true e1 e2 k = over_third (grind (arith, nat_tests, e1)) (grind (arith, nat_tests, e2)) (grind (arith, nat_tests, k))
    by true false e1 e2 k = over_second (grind (arith, nat_tests, e1)) (grind (arith, nat_tests, e2, k))
    by false t e1 e2 k = over_first (grind (arith, nat_tests, e1, k))

less_by : (a1 a2 a3 b1 b2 b3 : ℕ) → Less a1 a2 a3 b1 b2 b3 → by_three a1 a2 a3 b1 b2 b3 ≡ true
less_by a1 a2 a3 b1 b2 b3 (by_first l) =
    let apart : nat_eq a1 b1 ≡ false = grind (arith, nat_tests, l) in rw apart (grind (arith, nat_tests, l))
less_by a1 a2 a3 b1 b2 b3 (by_second e l) =
    let same : nat_eq a1 b1 ≡ true = grind (arith, nat_tests, e) in
    let apart : nat_eq a2 b2 ≡ false = grind (arith, nat_tests, l) in rw (same, apart) (grind (arith, nat_tests, l))
less_by a1 a2 a3 b1 b2 b3 (by_third e f l) =
    let same : nat_eq a1 b1 ≡ true = grind (arith, nat_tests, e) in
    let too : nat_eq a2 b2 ≡ true = grind (arith, nat_tests, f) in rw (same, too) (grind (arith, nat_tests, l))

-- c before a before b: c before b
goes_through : (c1 c2 c3 a1 a2 a3 b1 b2 b3 : ℕ) → Less c1 c2 c3 a1 a2 a3 → Less a1 a2 a3 b1 b2 b3 → Less c1 c2 c3 b1 b2 b3
goes_through c1 c2 c3 a1 a2 a3 b1 b2 b3 (by_first l) (by_first m) = by_first (omega (arith, l, m))
goes_through c1 c2 c3 a1 a2 a3 b1 b2 b3 (by_first l) (by_second e m) = by_first (omega (arith, l, e))
goes_through c1 c2 c3 a1 a2 a3 b1 b2 b3 (by_first l) (by_third e f m) = by_first (omega (arith, l, e))
goes_through c1 c2 c3 a1 a2 a3 b1 b2 b3 (by_second d l) (by_first m) = by_first (omega (arith, d, m))
goes_through c1 c2 c3 a1 a2 a3 b1 b2 b3 (by_second d l) (by_second e m) = by_second (omega (arith, d, e)) (omega (arith, l, m))
goes_through c1 c2 c3 a1 a2 a3 b1 b2 b3 (by_second d l) (by_third e f m) = by_second (omega (arith, d, e)) (omega (arith, l, f))
goes_through c1 c2 c3 a1 a2 a3 b1 b2 b3 (by_third d k l) (by_first m) = by_first (omega (arith, d, m))
goes_through c1 c2 c3 a1 a2 a3 b1 b2 b3 (by_third d k l) (by_second e m) = by_second (omega (arith, d, e)) (omega (arith, k, m))
goes_through c1 c2 c3 a1 a2 a3 b1 b2 b3 (by_third d k l) (by_third e f m) = by_third (omega (arith, d, e)) (omega (arith, k, f)) (omega (arith, l, m))

-- c before b, and a not before b: c before a
goes_below : (c1 c2 c3 b1 b2 b3 a1 a2 a3 : ℕ) → Less c1 c2 c3 b1 b2 b3 → AtLeast a1 a2 a3 b1 b2 b3 → Less c1 c2 c3 a1 a2 a3
goes_below c1 c2 c3 b1 b2 b3 a1 a2 a3 (by_first l) (over_first m) = by_first (omega (arith, l, m))
goes_below c1 c2 c3 b1 b2 b3 a1 a2 a3 (by_first l) (over_second e m) = by_first (omega (arith, l, e))
goes_below c1 c2 c3 b1 b2 b3 a1 a2 a3 (by_first l) (over_third e f m) = by_first (omega (arith, l, e))
goes_below c1 c2 c3 b1 b2 b3 a1 a2 a3 (by_second d l) (over_first m) = by_first (omega (arith, d, m))
goes_below c1 c2 c3 b1 b2 b3 a1 a2 a3 (by_second d l) (over_second e m) = by_second (omega (arith, d, e)) (omega (arith, l, m))
goes_below c1 c2 c3 b1 b2 b3 a1 a2 a3 (by_second d l) (over_third e f m) = by_second (omega (arith, d, e)) (omega (arith, l, f))
goes_below c1 c2 c3 b1 b2 b3 a1 a2 a3 (by_third d k l) (over_first m) = by_first (omega (arith, d, m))
goes_below c1 c2 c3 b1 b2 b3 a1 a2 a3 (by_third d k l) (over_second e m) = by_second (omega (arith, d, e)) (omega (arith, k, m))
goes_below c1 c2 c3 b1 b2 b3 a1 a2 a3 (by_third d k l) (over_third e f m) = by_third (omega (arith, d, e)) (omega (arith, k, f)) (omega (arith, l, m))

-- the same of breaches

before_is : (a b : Breach) → comes_before a b ≡ true → Less (rule_number a.rule) (table_number a.table) a.at (rule_number b.rule) (table_number b.table) b.at
before_is a b h = less_is _ _ _ _ _ _ h

before_by : (a b : Breach) → Less (rule_number a.rule) (table_number a.table) a.at (rule_number b.rule) (table_number b.table) b.at → comes_before a b ≡ true
before_by a b h = less_by _ _ _ _ _ _ h

never_itself : (a : Breach) → comes_before a a ≡ false
never_itself a = by (comes_before a a) refl
  where
    by : (t : Bool) → comes_before a a ≡ t → t ≡ false
    by true e = elim (before_is a a e) [ by_first l ↦ absurd (omega (arith, l)) | by_second d l ↦ absurd (omega (arith, l)) | by_third d k l ↦ absurd (omega (arith, l)) ]
    by false e = refl

-- one that comes before a is not behind b: a is not before b
kept_first : (c a b : Breach) → comes_before c a ≡ true → comes_before c b ≡ false → comes_before a b ≡ false
kept_first c a b l late = by (comes_before a b) refl
  where
    by : (t : Bool) → comes_before a b ≡ t → t ≡ false
    by true e = let so = before_by c b (goes_through _ _ _ _ _ _ _ _ _ (before_is c a l) (before_is a b e)) in cc
    by false e = refl

-- a is not before b, and c is not before a: c is not before b
kept_behind : (c a b : Breach) → comes_before c a ≡ false → comes_before a b ≡ false → comes_before c b ≡ false
kept_behind c a b l late = by (comes_before c b) refl
  where
    by : (t : Bool) → comes_before c b ≡ t → t ≡ false
    by true e = let so = before_by c a (goes_below _ _ _ _ _ _ _ _ _ (before_is c b e) (at_least_is _ _ _ _ _ _ late)) in cc
    by false e = refl

-- one more between
skipped : (a c : Breach) (bs : List Breach) (b : Breach) → Contains (a ∷ bs) b → Contains (a ∷ c ∷ bs) b
skipped a c bs b (zero, l, e) = (0, omega arith, e)
skipped a c bs b (suc k, l, e) = (suc (suc k), omega (arith, l), e)

-- what is found, from a on
record Found (a : Breach) (bs : List Breach) (b : Breach) : Type 0 where
  there : Contains (a ∷ bs) b
  behind : comes_before a b ≡ false
  all : All (λ other. comes_before other b ≡ false) bs

found_from : (a : Breach) (bs : List Breach) (b : Breach) → first_of (Some a) bs ≡ Some b → Found a bs b
found_from a [] b e =
    let same : a ≡ b = cc in
    record { there = (0, omega arith, same); behind = subst (λ x. comes_before a x ≡ false) same (never_itself a); all = All-nil (λ (other : Breach). comes_before other b ≡ false) }
found_from a (c ∷ bs) b e = by (comes_before c a) refl e (found_from c bs b) (found_from a bs b)
  where
    by : (t : Bool) → comes_before c a ≡ t → first_of (if t then Some c else Some a) bs ≡ Some b
        → (first_of (Some c) bs ≡ Some b → Found c bs b) → (first_of (Some a) bs ≡ Some b → Found a bs b) → Found a (c ∷ bs) b
    by true l h if_so if_not =
        let f = if_so h in
        record {
          there = let w = f.there in (suc w.0, omega (arith, w.1), w.2);
          behind = kept_first c a b l f.behind;
          all = All-cons (λ (other : Breach). comes_before other b ≡ false) c bs f.behind f.all;
        }
    by false l h if_so if_not =
        let f = if_not h in
        record {
          there = skipped a c bs b f.there;
          behind = f.behind;
          all = All-cons (λ (other : Breach). comes_before other b ≡ false) c bs (kept_behind c a b l f.behind) f.all;
        }

pub first_found : (image : Image) (b : Breach) → first_of None (breaches image) ≡ Some b → IsFirstBreach image b
first_found image b e = let f = by (breaches image) e in record { there = f.0; first = f.1 }
  where
    by : (bs : List Breach) → first_of None bs ≡ Some b → Contains bs b × All (λ other. comes_before other b ≡ false) bs
    by [] h = cc
    by (a ∷ bs) h = let f = found_from a bs b h in (f.there, All-cons (λ (other : Breach). comes_before other b ≡ false) a bs f.behind f.all)
