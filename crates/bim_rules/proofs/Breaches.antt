-- The first of what stands in two lists.

use Rattle.std.proofs.Common.{◌≡◌, List, [], ◌∷◌, ◌++◌, Option, refl}
use Rattle.bim_rules.specs.declared.breach.Breach.{Breach}
use Rattle.bim_rules.specs.Breaches.{first_of, earlier}

pub first_append : (found : Option Breach) (xs ys : List Breach) → first_of found (xs ++ ys) ≡ first_of (first_of found xs) ys
first_append found [] ys = refl
first_append found (b ∷ xs) ys = first_append (earlier found b) xs ys
