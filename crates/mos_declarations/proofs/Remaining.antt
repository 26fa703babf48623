-- Formals of which some are left are not those of a heading that has no more.

use Rattle.std.proofs.Common.{ℕ, ◌≡◌, ◌<◌, List, [], ◌∷◌, drop, drop-cons, length, Option, None, false, ap, arith}
use Rattle.mos_sorts.specs.declared.sort.Sort.{Sort}
use Rattle.mos_declarations.specs.Headings.{same_formals}

pub some_left : (found : List (Option Sort)) (i : ℕ) (rest : List Sort) → i < length found → length rest ≡ 0
    → same_formals (drop i found) rest ≡ false
some_left found i [] more none = ap (λ (left : List (Option Sort)). same_formals left []) (drop-cons found i None more)
some_left found i (x ∷ xs) more none = absurd (omega (arith, none))
