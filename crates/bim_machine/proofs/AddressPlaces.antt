-- The place of an address in code: how many instructions begin before it.

use Rattle.std.proofs.Common.{◌≡◌, ◌≤◌, ◌<◌, ℕ, ◌+◌, suc, Bool, true, false, List, [], ◌∷◌, length, Some, refl, ap, nat_eq, nat_lt, arith}
use Rattle.std.specs.Prelude.{if◌then◌else◌}
use Rattle.std.proofs.lemmas.Bool.Decides.{nat_tests}
use Rattle.bim_code.specs.declared.instruction.Instruction.{Instruction}
use Rattle.bim_code.specs.Rows.{width}
use Rattle.bim_code.specs.Code.{instruction_from}

abbrev pub place_from : ℕ → List Instruction → ℕ → ℕ
place_from at [] address = 0
place_from at (i ∷ is) address = if nat_lt at address then place_from (at + width i) is address + 1 else 0

pub place_within : (at : ℕ) (is : List Instruction) (address : ℕ) → place_from at is address ≤ length is
place_within at [] address = omega arith
place_within at (i ∷ is) address = tested (nat_lt at address) (place_within (at + width i) is address)
  where
    tested : (b : Bool) → place_from (at + width i) is address ≤ length is → (if b then place_from (at + width i) is address + 1 else 0) ≤ suc (length is)
    tested true h = omega (arith, h)
    tested false h = omega arith

-- it does not fall
pub place_rises : (at : ℕ) (is : List Instruction) (a b : ℕ) → a ≤ b → place_from at is a ≤ place_from at is b
place_rises at [] a b h = omega arith
place_rises at (i ∷ is) a b h = tested (nat_lt at a) (nat_lt at b) refl refl (place_rises (at + width i) is a b h)
  where
    tested : (p q : Bool) → nat_lt at a ≡ p → nat_lt at b ≡ q → place_from (at + width i) is a ≤ place_from (at + width i) is b
        → (if p then place_from (at + width i) is a + 1 else 0) ≤ (if q then place_from (at + width i) is b + 1 else 0)
    tested false q e g k = omega arith
    tested true true e g k = omega (arith, k)
    tested true false e g k = absurd (grind (arith, nat_tests, e, g, h))

-- nothing begins before the first
pub place_first : (at : ℕ) (is : List Instruction) → place_from at is at ≡ 0
place_first at [] = refl
place_first at (i ∷ is) = let e : nat_lt at at ≡ false = grind (arith, nat_tests) in ap (λ b. if b then place_from (at + width i) is at + 1 else 0) e

-- what is found does not begin before the first
found_above : (at : ℕ) (is : List Instruction) (address : ℕ) (i : Instruction) → instruction_from at is address ≡ Some i → at ≤ address
found_above at [] address i h = cc
found_above at (j ∷ is) address i h = tested (nat_eq at address) refl h (found_above (at + width j) is address i)
  where
    tested : (b : Bool) → nat_eq at address ≡ b → (if b then Some j else instruction_from (at + width j) is address) ≡ Some i
        → (instruction_from (at + width j) is address ≡ Some i → at + width j ≤ address) → at ≤ address
    tested true e k later = grind (arith, nat_tests, e)
    tested false e k later = let more = later k in omega (arith, more)

-- the instruction that begins at an address is counted behind it
pub place_next : (at : ℕ) (is : List Instruction) (address : ℕ) (i : Instruction) → instruction_from at is address ≡ Some i
    → (place_from at is (address + width i) ≡ place_from at is address + 1) × (place_from at is address < length is)
place_next at [] address i h = cc
place_next at (j ∷ is) address i h = tested (nat_eq at address) refl h (place_next (at + width j) is address i)
  where
    tested : (b : Bool) → nat_eq at address ≡ b → (if b then Some j else instruction_from (at + width j) is address) ≡ Some i
        → (instruction_from (at + width j) is address ≡ Some i
        → (place_from (at + width j) is (address + width i) ≡ place_from (at + width j) is address + 1) × (place_from (at + width j) is address < length is))
        → (place_from at (j ∷ is) (address + width i) ≡ place_from at (j ∷ is) address + 1) × (place_from at (j ∷ is) address < suc (length is))
    tested true e k later =
        let here : at ≡ address = grind (arith, nat_tests, e) in
        let same : j ≡ i = cc in
        rw (← here, ← same) (first j)
      where
        first : (j : Instruction) → (place_from at (j ∷ is) (at + width j) ≡ place_from at (j ∷ is) at + 1) × (place_from at (j ∷ is) at < suc (length is))
        first j =
            let not_before : nat_lt at at ≡ false = grind (arith, nat_tests) in
            let before : nat_lt at (at + width j) ≡ true = grind (arith, nat_tests) in
            let none = place_first (at + width j) is in
            rw (not_before, before, none) (refl, omega arith)
    tested false e k later =
        let above = found_above (at + width j) is address i k in
        let more = later k in
        let before : nat_lt at address ≡ true = grind (arith, nat_tests, above) in
        let behind : nat_lt at (address + width i) ≡ true = grind (arith, nat_tests, above) in
        let one = more.0 in
        let two = more.1 in
        rw (before, behind) (omega (arith, one), omega (arith, two))

-- and behind it at least one more begins
pub place_behind : (at : ℕ) (is : List Instruction) (address b : ℕ) (i : Instruction) → instruction_from at is address ≡ Some i → address < b
    → place_from at is address + 1 ≤ place_from at is b
place_behind at [] address b i h less = cc
place_behind at (j ∷ is) address b i h less = tested (nat_eq at address) refl h (λ k. place_behind (at + width j) is address b i k less)
  where
    tested : (t : Bool) → nat_eq at address ≡ t → (if t then Some j else instruction_from (at + width j) is address) ≡ Some i
        → (instruction_from (at + width j) is address ≡ Some i → place_from (at + width j) is address + 1 ≤ place_from (at + width j) is b)
        → place_from at (j ∷ is) address + 1 ≤ place_from at (j ∷ is) b
    tested true e k later =
        let before : nat_lt at b ≡ true = grind (arith, nat_tests, e, less) in
        let not_before : nat_lt at address ≡ false = grind (arith, nat_tests, e) in
        rw (before, not_before) (omega arith)
    tested false e k later =
        let above = found_above (at + width j) is address i k in
        let more = later k in
        let before : nat_lt at address ≡ true = grind (arith, nat_tests, above) in
        let behind : nat_lt at b ≡ true = grind (arith, nat_tests, above, less) in
        rw (before, behind) (omega (arith, more))
