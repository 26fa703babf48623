-- Lists of names: which names are in one, how a name is added, and the place of a name.

use Rattle.std.specs.Prelude.{ℕ, ◌+◌, Bool, List, [], ◌∷◌, ◌++◌, if◌then◌else◌}
use Rattle.std.specs.List.{list_any}
use Rattle.std.specs.Str.{bytes_eq}

-- a name, by its bytes
abbrev pub Name : Type 0
Name = List ℕ

-- the name is among these
abbrev pub has_name : Name → List Name → Bool
has_name n names = list_any (bytes_eq n) names

-- the names so far, and one more that is not among them
abbrev pub with_name : List Name → Name → List Name
with_name names n = if has_name n names then names else names ++ n ∷ []

-- the place of a name, from 0; where it is not there, one behind the last
abbrev pub place_of : Name → List Name → ℕ
place_of n [] = 0
place_of n (m ∷ names) = if bytes_eq n m then 0 else place_of n names + 1
