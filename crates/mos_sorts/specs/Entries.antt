-- Declared names in order: the last entry of a name, and where it stands.

use Rattle.std.specs.Prelude.{◌≡◌, ◌<◌, ℕ, List, [], ◌∷◌, Option, Some, None, if◌then◌else◌, length}
use Rattle.std.specs.List.{slice_get}
use Rattle.std.specs.Str.{bytes_eq}
use Rattle.mos_names.specs.NameLists.{Name}
use Rattle.mos_sorts.specs.declared.scope.Entry.{Entry}

-- the last entry of this name, or the one before these
abbrev pub latest : Name → Option Entry → List Entry → Option Entry
latest n found [] = found
latest n found (e ∷ es) = latest n (if bytes_eq n e.name then Some e else found) es

-- the entry stands at this place of these; there is none where there is no place
abbrev pub StandsAt : Option ℕ → Option Entry → List Entry → Type 0
StandsAt None found entries = found ≡ None
StandsAt (Some place) found entries = (place < length entries) × (found ≡ slice_get entries place)

-- the places, by name, are those of the last entries
abbrev pub AreLatest : (Name → Option ℕ) → List Entry → Type 0
AreLatest place_of entries = (n : Name) → StandsAt (place_of n) (latest n None entries) entries
