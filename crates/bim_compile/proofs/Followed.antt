-- Behind each instruction of code that ends by leaving its part another one begins, unless it leaves too.

use Rattle.std.proofs.Common.{◌≡◌, ◌≤◌, ◌+◌, ℕ, Bool, true, false, List, [], ◌∷◌, ◌++◌, Some, None, refl, nat_eq, arith, subst, sym, ◌∙◌}
use Rattle.std.specs.Prelude.{if◌then◌else◌}
use Rattle.std.proofs.lemmas.Bool.Decides.{nat_tests}
use Rattle.bim_code.specs.declared.instruction.Instruction.{Instruction}
use Rattle.bim_code.specs.Rows.{width}
use Rattle.bim_code.specs.Code.{instruction_from}
use Rattle.bim_code.specs.Rules.{leaves_part}

-- the last instruction leaves the part
abbrev pub LeavesLast : List Instruction → Type 0
LeavesLast [] = ⊥
LeavesLast (i ∷ []) = leaves_part i ≡ true
LeavesLast (i ∷ j ∷ is) = LeavesLast (j ∷ is)

pub leaves_append : (is : List Instruction) (j : Instruction) (js : List Instruction) → LeavesLast (j ∷ js) → LeavesLast (is ++ j ∷ js)
leaves_append [] j js h = h
leaves_append (i ∷ []) j js h = h
leaves_append (i ∷ k ∷ is) j js h = leaves_append (k ∷ is) j js h

-- what is found does not begin before the first
found_above : (at : ℕ) (is : List Instruction) (address : ℕ) (i : Instruction) → instruction_from at is address ≡ Some i → at ≤ address
found_above at [] address i h = cc
found_above at (j ∷ is) address i h = tested (nat_eq at address) refl h (found_above (at + width j) is address i)
  where
    tested : (b : Bool) → nat_eq at address ≡ b → (if b then Some j else instruction_from (at + width j) is address) ≡ Some i
        → (instruction_from (at + width j) is address ≡ Some i → at + width j ≤ address) → at ≤ address
    tested true e k later = grind (arith, nat_tests, e)
    tested false e k later = let more = later k in omega (arith, more)

abbrev BegunFrom : ℕ → List Instruction → ℕ → Type 0
BegunFrom at is address = (i : Instruction) × (instruction_from at is address ≡ Some i)

first_found : (at : ℕ) (j : Instruction) (is : List Instruction) → BegunFrom at (j ∷ is) at
first_found at j is = let same : nat_eq at at ≡ true = grind (arith, nat_tests) in (j, rw same refl)

pub followed : (at : ℕ) (is : List Instruction) → LeavesLast is → (address : ℕ) (i : Instruction) → instruction_from at is address ≡ Some i → leaves_part i ≡ false
    → BegunFrom at is (address + width i)
followed at [] h address i found stays = absurd h
followed at (j ∷ []) h address i found stays = tested (nat_eq at address) found
  where
    tested : (b : Bool) → (if b then Some j else None) ≡ Some i → BegunFrom at (j ∷ []) (address + width i)
    tested true e =
        let same : j ≡ i = cc in
        let both : true ≡ false = sym h ∙ subst (λ (x : Instruction). leaves_part x ≡ false) (sym same) stays in cc
    tested false e = cc
followed at (j ∷ k ∷ is) h address i found stays = tested (nat_eq at address) refl found (followed (at + width j) (k ∷ is) h address i)
  where
    behind : (b : ℕ) → at + width j ≤ b → BegunFrom (at + width j) (k ∷ is) b → BegunFrom at (j ∷ k ∷ is) b
    behind b less begun = let apart : nat_eq at b ≡ false = grind (arith, nat_tests, less) in (begun.0, rw apart begun.1)

    tested : (b : Bool) → nat_eq at address ≡ b → (if b then Some j else instruction_from (at + width j) (k ∷ is) address) ≡ Some i
        → (instruction_from (at + width j) (k ∷ is) address ≡ Some i → leaves_part i ≡ false → BegunFrom (at + width j) (k ∷ is) (address + width i))
        → BegunFrom at (j ∷ k ∷ is) (address + width i)
    tested true e found later =
        let here : at ≡ address = grind (arith, nat_tests, e) in
        let same : j ≡ i = cc in
        subst (λ (x : ℕ). BegunFrom at (j ∷ k ∷ is) (x + width i)) here
        (subst (λ (x : Instruction). BegunFrom at (j ∷ k ∷ is) (at + width x)) same (behind (at + width j) (omega arith) (first_found (at + width j) k is)))
    tested false e found later =
        let above = found_above (at + width j) (k ∷ is) address i found in
        behind (address + width i) (omega (arith, above)) (later found stays)
