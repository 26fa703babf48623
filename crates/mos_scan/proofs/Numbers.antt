-- The value of decimal digits.

use Rattle.std.proofs.Common.{◌≡◌, ℕ, ◌+◌, ◌*◌, ◌-◌, ◌<◌, ◌≤◌, min, nat_lt, List, [], ◌∷◌, arith, sym, ◌∙◌}
use Rattle.std.proofs.lemmas.Bool.{lt-ltb, le-ltb, ltb-true, ltb-false}
use Rattle.mos_scan.specs.Tokens.{number_from}
use Rattle.mos_scan.proofs.Lists.{on_bool}

-- further digits make no number smaller
pub grows : (n : ℕ) (ds : List ℕ) → n ≤ number_from n ds
grows n [] = omega arith
grows n (d ∷ ds) = omega (arith, grows (n * 10 + (d - 48)) ds)

-- a number that is above a bound is so also where it is cut off behind the bound
pub is_above : (n : ℕ) → nat_lt 2147483647 (min n 2147483648) ≡ nat_lt 2147483647 n
is_above n =
    on_bool (nat_lt 2147483647 n)
    (λ e. let more : 2147483647 < n = ltb-true _ _ e in lt-ltb _ _ (omega (arith, more)) ∙ sym e)
    (λ e. let less : n ≤ 2147483647 = ltb-false _ _ e in le-ltb _ _ (omega (arith, less)) ∙ sym e)
