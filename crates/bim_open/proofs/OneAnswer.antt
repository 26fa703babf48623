-- Of the same bytes there is one answer.

use Rattle.std.proofs.Common.{◌≡◌, ◌+◌, ◌<◌, ◌≤◌, ℕ, Bool, true, false, List, Ok, Err, sym, ap, subst, ◌∙◌, refl, nat_eq, nat_lt, arith, ◌-◌, length}
use Rattle.std.specs.Prelude.{if◌then◌else◌}
use Rattle.std.specs.List.{Contains}
use Rattle.std.proofs.lemmas.Bool.Decides.{nat_tests}
use Rattle.std.proofs.lemmas.List.Elements.{All-contains}
use Rattle.bim_code.specs.declared.image.Image.{Image}
use Rattle.bim_read.specs.declared.fault.Bad.{Bad}
use Rattle.bim_read.specs.Images.{image_from, kind_number}
use Rattle.bim_rules.specs.declared.breach.Breach.{Breach}
use Rattle.bim_rules.specs.Breaches.{comes_before, rule_number, table_number}
use Rattle.bim_verify.specs.Verified.{breaches, KeepsAllRules, IsFirstBreach, IsToldBy}
use Rattle.bim_open.specs.Opened.{IsVerified, IsFaultAt, unread, refused}

-- The order by three numbers, one after the other.

abbrev by_three : (a1 a2 a3 b1 b2 b3 : ℕ) → Bool
by_three a1 a2 a3 b1 b2 b3 = if nat_eq a1 b1 then (if nat_eq a2 b2 then nat_lt a3 b3 else nat_lt a2 b2) else nat_lt a1 b1

data AtLeast (a1 a2 a3 b1 b2 b3 : ℕ) : Type 0 where
  over_first : b1 < a1 → AtLeast a1 a2 a3 b1 b2 b3
  over_second : a1 ≡ b1 → b2 < a2 → AtLeast a1 a2 a3 b1 b2 b3
  over_third : a1 ≡ b1 → a2 ≡ b2 → b3 ≤ a3 → AtLeast a1 a2 a3 b1 b2 b3

at_least_is : (a1 a2 a3 b1 b2 b3 : ℕ) → by_three a1 a2 a3 b1 b2 b3 ≡ false → AtLeast a1 a2 a3 b1 b2 b3
at_least_is a1 a2 a3 b1 b2 b3 h = by (nat_eq a1 b1) (nat_eq a2 b2) refl refl h
  where
    by : (s t : Bool) → nat_eq a1 b1 ≡ s → nat_eq a2 b2 ≡ t → (if s then (if t then nat_lt a3 b3 else nat_lt a2 b2) else nat_lt a1 b1) ≡ false → AtLeast a1 a2 a3 b1 b2 b3
    by true true e1 e2 k = over_third (grind (arith, nat_tests, e1)) (grind (arith, nat_tests, e2)) (grind (arith, nat_tests, k))
    by true false e1 e2 k = over_second (grind (arith, nat_tests, e1)) (grind (arith, nat_tests, e2, k))
    by false t e1 e2 k = over_first (grind (arith, nat_tests, e1, k))

-- each at least the other
ends_meet : (a1 a2 a3 b1 b2 b3 : ℕ) → AtLeast a1 a2 a3 b1 b2 b3 → AtLeast b1 b2 b3 a1 a2 a3 → (a3 ≡ b3) × (a1 ≡ b1)
ends_meet a1 a2 a3 b1 b2 b3 (over_first m) (over_first n) = (omega (arith, m, n), omega (arith, m, n))
ends_meet a1 a2 a3 b1 b2 b3 (over_first m) (over_second e n) = (omega (arith, m, e), omega (arith, m, e))
ends_meet a1 a2 a3 b1 b2 b3 (over_first m) (over_third e f n) = (omega (arith, m, e), omega (arith, m, e))
ends_meet a1 a2 a3 b1 b2 b3 (over_second d m) (over_first n) = (omega (arith, d, n), omega (arith, d, n))
ends_meet a1 a2 a3 b1 b2 b3 (over_second d m) (over_second e n) = (omega (arith, m, n), omega (arith, m, n))
ends_meet a1 a2 a3 b1 b2 b3 (over_second d m) (over_third e f n) = (omega (arith, m, f), omega (arith, m, f))
ends_meet a1 a2 a3 b1 b2 b3 (over_third d k m) (over_first n) = (omega (arith, d, n), omega (arith, d, n))
ends_meet a1 a2 a3 b1 b2 b3 (over_third d k m) (over_second e n) = (omega (arith, k, n), omega (arith, k, n))
ends_meet a1 a2 a3 b1 b2 b3 (over_third d k m) (over_third e f n) = (omega (arith, m, n), d)

-- neither of two breaches comes before the other
neither_before : (a b : Breach) → comes_before a b ≡ false → comes_before b a ≡ false → (a.at ≡ b.at) × (rule_number a.rule ≡ rule_number b.rule)
neither_before a b over under =
    ends_meet (rule_number a.rule) (table_number a.table) a.at (rule_number b.rule) (table_number b.table) b.at
    (at_least_is (rule_number a.rule) (table_number a.table) a.at (rule_number b.rule) (table_number b.table) b.at over)
    (at_least_is (rule_number b.rule) (table_number b.table) b.at (rule_number a.rule) (table_number a.table) a.at under)

-- two first breaches of an image
one_first : (image : Image) (a b : Breach) → IsFirstBreach image a → IsFirstBreach image b → (a.at ≡ b.at) × (rule_number a.rule ≡ rule_number b.rule)
one_first image a b first other =
    neither_before a b
    (All-contains (λ (x : Breach). comes_before x b ≡ false) (breaches image) a other.first first.there)
    (All-contains (λ (x : Breach). comes_before x a ≡ false) (breaches image) b first.first other.there)

-- what is told of an image
one_told : (image : Image) (at rule place number : ℕ) → IsToldBy image at rule → IsToldBy image place number → (at ≡ place) × (rule ≡ number)
one_told image at rule place number told other =
    let same = one_first image told.breach other.breach told.is_first other.is_first in
    (told.at_is ∙ same.0 ∙ sym other.at_is, told.rule_is ∙ same.1 ∙ sym other.rule_is)

-- an image that breaks no rule is told nothing of
never_told : (image : Image) (at rule : ℕ) → KeepsAllRules image → IsToldBy image at rule → ⊥
never_told image at rule keeps told =
    let there = subst (λ (all : List Breach). Contains all told.breach) keeps told.is_first.there in
    omega (arith, there.1)

-- bytes are one image
pub one_image : (bytes : List ℕ) (image other : Image) → image_from bytes ≡ Ok image → image_from bytes ≡ Ok other → image ≡ other
one_image bytes image other e f = cc

-- or none
not_both : (bytes : List ℕ) (image : Image) (bad : Bad) → image_from bytes ≡ Ok image → image_from bytes ≡ Err bad → ⊥
not_both bytes image bad e f = cc

-- with one fault
one_bad : (bytes : List ℕ) (bad other : Bad) → image_from bytes ≡ Err bad → image_from bytes ≡ Err other → bad ≡ other
one_bad bytes bad other e f = cc

pub never_both : (bytes : List ℕ) (image : Image) (at rule : ℕ) → IsVerified bytes image → IsFaultAt bytes at rule → ⊥
never_both bytes image at rule is (unread bad found place number) = not_both bytes image bad is.read found
never_both bytes image at rule is (refused other number found told above) =
    never_told other at number (subst KeepsAllRules (one_image bytes image other is.read found) is.keeps) told

pub one_fault : (bytes : List ℕ) (at rule place number : ℕ) → IsFaultAt bytes at rule → IsFaultAt bytes place number
    → (at ≡ place) × (rule ≡ number)
one_fault bytes at rule place number (unread bad found a k) (unread other found_too b l) =
    let same = one_bad bytes bad other found found_too in
    (a ∙ ap (λ (x : Bad). length bytes - x.left) same ∙ sym b, k ∙ ap (λ (x : Bad). kind_number x.kind) same ∙ sym l)
one_fault bytes at rule place number (unread bad found a k) (refused image n is told above) = absurd (not_both bytes image bad is found)
one_fault bytes at rule place number (refused image n is told above) (unread bad found a k) = absurd (not_both bytes image bad is found)
one_fault bytes at rule place number (refused image n is told above) (refused other m is_too told_too above_too) =
    let same = one_told image at n place m told (subst (λ (i : Image). IsToldBy i place m) (sym (one_image bytes image other is is_too)) told_too) in
    (same.0, above ∙ ap (λ (r : ℕ). 100 + r) same.1 ∙ sym above_too)
