-- What begins at a byte of by_address code is the instruction at that address.

use Rattle.std.proofs.Common.{◌≡◌, ◌≤◌, ◌<◌, ℕ, ◌+◌, ◌-◌, zero, suc, Bool, true, false, List, [], ◌∷◌, ◌++◌, length, replicate, Option, Some, None, refl, sym, ap, ◌∙◌, nat_eq, nat_lt, arith}
use Rattle.std.specs.Prelude.{if◌then◌else◌}
use Rattle.std.proofs.lemmas.Bool.Decides.{nat_tests}
use Rattle.bim_code.specs.declared.instruction.Instruction.{Instruction}
use Rattle.bim_code.specs.Rows.{width}
use Rattle.bim_code.specs.Code.{instruction_at, instruction_from, code_size}
use Rattle.bim_rules.specs.ByAddress.{by_address, found_at}

-- nothing begins before the first
none_below : (at : ℕ) (is : List Instruction) (address : ℕ) → address < at → instruction_from at is address ≡ None
none_below at [] address less = refl
none_below at (i ∷ is) address less =
    let apart : nat_eq at address ≡ false = grind (arith, nat_tests, less) in
    rw apart (none_below (at + width i) is address (omega (arith, less)))

-- among bytes at which nothing begins, and behind them
skip_in : (many m : ℕ) (rest : List (Option Instruction)) → m < many → found_at (replicate many None ++ rest) m ≡ None
skip_in zero m rest less = absurd (omega (arith, less))
skip_in (suc many) zero rest less = refl
skip_in (suc many) (suc m) rest less = skip_in many m rest (omega (arith, less))

skip_past : (many m : ℕ) (rest : List (Option Instruction)) → found_at (replicate many None ++ rest) (many + m) ≡ found_at rest m
skip_past zero m rest = let e : 0 + m ≡ m = omega arith in rw e refl
skip_past (suc many) m rest = let e : suc many + m ≡ suc (many + m) = omega arith in rw e (skip_past many m rest)

begun_spread : (at : ℕ) (is : List Instruction) (n : ℕ) → found_at (by_address is) n ≡ instruction_from at is (at + n)
begun_spread at [] n = refl
begun_spread at (i ∷ is) zero =
    let here : nat_eq at (at + 0) ≡ true = grind (arith, nat_tests) in
    rw here refl
begun_spread at (i ∷ is) (suc n) = tested (nat_lt n (width i - 1)) refl (λ m. begun_spread (at + width i) is m)
  where
    apart : nat_eq at (at + suc n) ≡ false
    apart = grind (arith, nat_tests)

    tested : (b : Bool) → nat_lt n (width i - 1) ≡ b
        → ((m : ℕ) → found_at (by_address is) m ≡ instruction_from (at + width i) is (at + width i + m))
        → found_at (by_address (i ∷ is)) (suc n) ≡ instruction_from at (i ∷ is) (at + suc n)
    tested true e later =
        let less : n < width i - 1 = grind (arith, nat_tests, e) in
        let below : at + suc n < at + width i = omega (arith, less) in
        rw apart (skip_in (width i - 1) n (by_address is) less ∙ sym (none_below (at + width i) is (at + suc n) below))
    tested false e later =
        let more : width i - 1 ≤ n = grind (arith, nat_tests, e) in
        let m : ℕ = n - (width i - 1) in
        let n_is : n ≡ (width i - 1) + m = omega (arith, more) in
        let there : at + width i + m ≡ at + suc n = omega (arith, more) in
        rw apart (ap (found_at (replicate (width i - 1) None ++ by_address is)) n_is ∙ skip_past (width i - 1) m (by_address is) ∙ later m
        ∙ ap (instruction_from (at + width i) is) there)

pub begun_is : (code : List Instruction) (address : ℕ) → found_at (by_address code) address ≡ instruction_at code address
begun_is code address = let e : 0 + address ≡ address = omega arith in begun_spread 0 code address ∙ ap (instruction_from 0 code) e

-- what is found ends within the code
found_within : (at : ℕ) (is : List Instruction) (address : ℕ) (i : Instruction)
    → instruction_from at is address ≡ Some i → address + width i ≤ at + code_size is
found_within at [] address i h = cc
found_within at (j ∷ is) address i h = tested (nat_eq at address) refl h (found_within (at + width j) is address i)
  where
    tested : (b : Bool) → nat_eq at address ≡ b → (if b then Some j else instruction_from (at + width j) is address) ≡ Some i
        → (instruction_from (at + width j) is address ≡ Some i → address + width i ≤ at + width j + code_size is)
        → address + width i ≤ at + code_size (j ∷ is)
    tested true e k later =
        let here : at ≡ address = grind (arith, nat_tests, e) in
        let same : j ≡ i = cc in
        let wide : width j ≡ width i = ap width same in
        omega (arith, here, wide)
    tested false e k later = let within = later k in omega (arith, within)

pub at_within : (code : List Instruction) (address : ℕ) (i : Instruction) → instruction_at code address ≡ Some i → address + width i ≤ code_size code
at_within code address i h = let within = found_within 0 code address i h in omega (arith, within)

pub length_within : (code : List Instruction) → length code ≤ code_size code
length_within [] = omega arith
length_within (i ∷ is) = let rest = length_within is in omega (arith, rest)
