-- how a number grows by digits

use Rattle.std.proofs.Common.{◌≡◌, ◌<◌, ℕ, ◌+◌, ◌-◌, ◌*◌, Bool, true, false, List, [], ◌∷◌, None, refl, arith}
use Rattle.std.proofs.lemmas.Bool.Decides.{nat_tests}
use Rattle.std.specs.Prelude.{nat_le, ◌&&◌, if◌then◌else◌}
use Rattle.vm_lib.specs.Numerals.{digits_from}
use Rattle.vm_lib.specs.Growing.{if_up_to_least, number_behind}

-- one digit more
pub one_digit : (n d : ℕ) (ds : List ℕ) → number_behind (10 * n + (d - 48)) ds ≡ None → number_behind n (d ∷ ds) ≡ None
one_digit n d ds later = tested (nat_le 48 d && nat_le d 57)
  where
    tested : (b : Bool) → if_up_to_least (if b then digits_from (10 * n + (d - 48)) ds else None) ≡ None
    tested true = later
    tested false = refl

-- more digits do not make a number less
pub too_large : (n : ℕ) (text : List ℕ) → 2147483648 < n → number_behind n text ≡ None
too_large n [] more =
    let above : nat_le n 2147483648 ≡ false = grind (arith, nat_tests, more) in
    rw above refl
too_large n (d ∷ ds) more = one_digit n d ds (too_large (10 * n + (d - 48)) ds (omega (arith, more)))
