-- Each instruction is found where the widths before it end.
use Rattle.std.proofs.Common.{◌≡◌, ◌+◌, ℕ, zero, suc, Bool, true, false, List, [], ◌∷◌, Some, refl, ap, subst, slice_get, take, nat_eq, arith}
use Rattle.std.specs.Prelude.{if◌then◌else◌}
use Rattle.std.proofs.lemmas.Bool.Decides.{nat_tests}
use Rattle.bim_code.specs.declared.instruction.Instruction.{Instruction}
use Rattle.bim_code.specs.Rows.{width}
use Rattle.bim_code.specs.Code.{code_size, address_of, instruction_from, instruction_at}
use Rattle.bim_code.specs.AddressLaws.{IsNumbered}

from_sum : (at : ℕ) (code : List Instruction) (k : ℕ) (i : Instruction) → slice_get code k ≡ Some i → instruction_from at code (at + code_size (take k code)) ≡ Some i
from_sum at [] k i e = cc
from_sum at (j ∷ is) zero i e =
    let here : nat_eq at (at + 0) ≡ true = grind (arith, nat_tests) in
    let same : j ≡ i = cc in rw here (ap (λ (x : Instruction). Some x) same)
from_sum at (j ∷ is) (suc k) i e =
    let rest = from_sum (at + width j) is k i e in
    let sum : at + (width j + code_size (take k is)) ≡ (at + width j) + code_size (take k is) = omega arith in
    let apart : nat_eq at ((at + width j) + code_size (take k is)) ≡ false = grind (arith, nat_tests) in
    rw (sum, apart) rest

pub begins_at_sum : (code : List Instruction) (k : ℕ) (i : Instruction) → slice_get code k ≡ Some i → instruction_at code (address_of code k) ≡ Some i
begins_at_sum code k i e = let z : 0 + code_size (take k code) ≡ code_size (take k code) = omega arith in subst (λ a. instruction_from 0 code a ≡ Some i) z (from_sum 0 code k i e)

-- the number of an instruction that is found
found_number : (at : ℕ) (code : List Instruction) (address : ℕ) (i : Instruction) → instruction_from at code address ≡ Some i
    → (k : ℕ) × (slice_get code k ≡ Some i) × (at + code_size (take k code) ≡ address)
found_number at [] address i e = cc
found_number at (j ∷ is) address i e = tested (nat_eq at address) refl e (found_number (at + width j) is address i)
  where
    tested : (b : Bool) → nat_eq at address ≡ b → (if b then Some j else instruction_from (at + width j) is address) ≡ Some i
        → (instruction_from (at + width j) is address ≡ Some i → (k : ℕ) × (slice_get is k ≡ Some i) × ((at + width j) + code_size (take k is) ≡ address))
        → (k : ℕ) × (slice_get (j ∷ is) k ≡ Some i) × (at + code_size (take k (j ∷ is)) ≡ address)
    tested true t e later = let here : at ≡ address = grind (arith, nat_tests, t) in (0, e, omega (arith, here))
    tested false t e later = let more = later e in let sum = more.2 in (suc more.0, more.1, omega (arith, sum))

pub none_elsewhere : (code : List Instruction) (address : ℕ) (i : Instruction) → instruction_at code address ≡ Some i → IsNumbered code address i
none_elsewhere code address i e =
    let f = found_number 0 code address i e in
    let sum = f.2 in record { number = f.0; numbered = f.1; address_is = omega (arith, sum) }
