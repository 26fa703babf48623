-- Places in a journal: the last that passes is below its end.

use Rattle.std.proofs.Common.{◌≡◌, ◌<◌, ◌+◌, ℕ, suc, Bool, true, false, List, [], ◌∷◌, ◌++◌, Option, Some, None, refl, length, length-append, arith, nat_eq}
use Rattle.std.specs.Prelude.{if◌then◌else◌}
use Rattle.std.specs.List.{enumerate_from}
use Rattle.std.proofs.lemmas.Bool.{eqb-true}
use Rattle.std.proofs.lemmas.Option.{none-some, same_Some}
use Rattle.job_calls.specs.declared.entry.Entry.{Entry}
use Rattle.job_calls.specs.Runs.{last_of, last_given}
use Rattle.job_calls.specs.Blocks.{last_place}

if_some : (b : Bool) (n p : ℕ) → (if b then Some n else None) ≡ Some p → n ≡ p
if_some true n p e = same_Some n p e
if_some false n p e = absurd (none-some p e)

below_by : (b : Bool) (n m p : ℕ) (rest : Option ℕ) → ((q : ℕ) → rest ≡ Some q → q < n + 1 + m) → last_of (if b then Some n else None) rest ≡ Some p → p < n + suc m
below_by b n m p None rest e = let same = if_some b n p e in omega (arith, same)
below_by b n m p (Some q) rest e =
    let same = same_Some q p e in
    let less = rest q refl in
    omega (arith, same, less)

below_from : (test : Entry → Bool) (n : ℕ) (xs : List Entry) (p : ℕ)
    → last_given (λ (q : ℕ × Entry). if test q.1 then Some q.0 else None) (enumerate_from n xs) ≡ Some p → p < n + length xs
below_from test n [] p e = absurd (none-some p e)
below_from test n (x ∷ xs) p e =
    below_by (test x) n (length xs) p (last_given (λ (q : ℕ × Entry). if test q.1 then Some q.0 else None) (enumerate_from (n + 1) xs)) (below_from test (n + 1) xs) e

-- the place of the last that passes
pub place_below : (test : Entry → Bool) (journal : List Entry) (p : ℕ) → last_place test journal ≡ Some p → p < length journal
place_below test journal p e = let less = below_from test 0 journal p e in omega (arith, less)

-- one entry more
pub longer : (journal : List Entry) (e : Entry) → length (journal ++ e ∷ []) ≡ length journal + 1
longer journal e = length-append journal (e ∷ [])

-- numbers that are apart
pub apart : (n m : ℕ) → m < n → nat_eq n m ≡ false
apart n m less = by (nat_eq n m) refl where
  by : (b : Bool) → nat_eq n m ≡ b → nat_eq n m ≡ false
  by true e = let same = eqb-true n m e in absurd (omega (arith, same, less))
  by false e = e
