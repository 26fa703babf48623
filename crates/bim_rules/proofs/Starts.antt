-- How many routines begin at an address or before it is told by their addresses in rising order.

use Rattle.std.proofs.Common.{◌≡◌, ◌≤◌, ℕ, ◌+◌, zero, suc, Bool, true, false, List, [], ◌∷◌, length, refl, ap, sym, ◌∙◌, leb, cond, arith}
use Rattle.std.specs.Prelude.{IsPermutation}
use Rattle.std.specs.List.{filter}
use Rattle.std.specs.List.Sorted.{IsPartitionPoint}
use Rattle.std.proofs.lemmas.List.Sorted.{sum_by-IsPermutation}
use Rattle.std.proofs.lemmas.List.Sums.{sum_by-cons}
use Rattle.bim_code.specs.declared.image.Routine.{Routine}
use Rattle.bim_code.specs.Rules.{part_of}
use Rattle.bim_rules.specs.ByAddress.{addresses_of, one_up_to, many_up_to}

one_more : (test : Bool) (r : Routine) (xs : List Routine) (n : ℕ) → length xs ≡ n → length (cond test (r ∷ xs) xs) ≡ cond test 1 0 + n
one_more true r xs n e = omega (arith, e)
one_more false r xs n e = omega (arith, e)

part_is : (routines : List Routine) (address : ℕ) → part_of routines address ≡ many_up_to address (addresses_of routines)
part_is [] address = refl
part_is (r ∷ routines) address =
    one_more (leb r.address address) r (filter (λ (q : Routine). leb q.address address) routines) (many_up_to address (addresses_of routines)) (part_is routines address)
    ∙ sym (sum_by-cons (one_up_to address) r.address (addresses_of routines))

pub part_by_starts : (routines : List Routine) (starts : List ℕ) (address : ℕ) → IsPermutation (addresses_of routines) starts
    → many_up_to address starts ≡ part_of routines address
part_by_starts routines starts address same =
    sum_by-IsPermutation (one_up_to address) (addresses_of routines) starts same ∙ sym (part_is routines address)

pub counted : (t k : ℕ) (xs : List ℕ) → k ≤ length xs
    → IsPartitionPoint (λ y. leb y t ≡ true) (λ y. leb y t ≡ false) xs k → k ≡ many_up_to t xs
counted t zero [] few h = refl
counted t (suc k) [] few h = absurd (omega (arith, few))
counted t zero (x ∷ xs) few h =
    let high : leb x t ≡ false = h.1 0 0 (omega arith) (omega arith) in
    let rest = counted t zero xs (omega arith) ((λ i d low less. absurd (omega (arith, less))), (λ i d low less. h.1 (suc i) d (omega arith) (omega (arith, less)))) in
    let whole : many_up_to t (x ∷ xs) ≡ 0 + many_up_to t xs = sum_by-cons (one_up_to t) x xs ∙ ap (λ b. cond b 1 0 + many_up_to t xs) high in
    omega (arith, rest, whole)
counted t (suc k) (x ∷ xs) few h =
    let low : leb x t ≡ true = h.0 0 0 (omega arith) (omega arith) in
    let rest = counted t k xs (omega (arith, few)) ((λ i d from less. h.0 (suc i) d (omega arith) (omega (arith, less))), (λ i d from less. h.1 (suc i) d (omega (arith, from)) (omega (arith, less)))) in
    let whole : many_up_to t (x ∷ xs) ≡ 1 + many_up_to t xs = sum_by-cons (one_up_to t) x xs ∙ ap (λ b. cond b 1 0 + many_up_to t xs) low in
    omega (arith, rest, whole)
