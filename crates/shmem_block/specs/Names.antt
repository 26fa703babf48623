-- What places under names say.

use Rattle.std.specs.Prelude.{◌≡◌, ℕ, List, Option, Some, IsSome, if◌then◌else◌}
use Rattle.std.specs.Option.{option_flatten}
use Rattle.std.specs.Str.{bytes_eq}
use Rattle.indexmap.specs.IndexMap.{get_by_text}
use Rattle.shmem_block.specs.declared.places.Places.{Places}

-- the last place under the name
abbrev pub place_under : List ℕ → Places → Option ℕ
place_under name places = option_flatten (get_by_text places.places name)

-- a place can be put under the name without memory
abbrev pub IsKnown : List ℕ → Places → Type 0
IsKnown name places = IsSome (get_by_text places.places name)

-- the place was put under this name, and all others stay
abbrev pub IsPut : Places → Places → List ℕ → ℕ → Type 0
IsPut old new written place =
    (name : List ℕ) → place_under name new ≡ (if bytes_eq written name then Some place else place_under name old)
