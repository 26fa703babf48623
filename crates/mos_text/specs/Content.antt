-- What is known of a folder: a finite map from names to bytes, or nothing at all.

use Rattle.std.specs.Prelude.{◌≡◌, ◌≢◌, ℕ, List, [], ◌∷◌, Option, Some, None, map}
use Rattle.std.specs.Ordering.{nat_cmp}
use Rattle.std.specs.Cmp.Lexicographic.{slice_cmp}
use Rattle.std.specs.FinMap.{FinMap, get, insert, from_entries}

-- The files by their names; a name without bytes is one whose bytes are not known.
abbrev pub Files : Type 0
Files = FinMap (slice_cmp nat_cmp) (Option (List ℕ))

-- What is known of one name.
pub data Known : Type 0 where
  -- nothing is known of this name
  Unknown : Known
  -- there is no file of this name
  Absent : Known
  -- there is one, and these are its bytes
  Holds : List ℕ → Known

-- What an entry of the map, or its lack, says of its name.
abbrev pub known_by : Option (Option (List ℕ)) → Known
known_by None = Absent
known_by (Some None) = Unknown
known_by (Some (Some bytes)) = Holds bytes

-- What a folder's content says of a name.
abbrev pub known_of : Option Files → List ℕ → Known
known_of None name = Unknown
known_of (Some files) name = known_by (get files name)

-- The content after the name has these bytes.
abbrev pub put_file : Option Files → List ℕ → List ℕ → Option Files
put_file None name bytes = None
put_file (Some files) name bytes = Some (insert files name (Some bytes))

-- The content after the bytes of this name are no longer known.
abbrev pub lose_file : Option Files → List ℕ → Option Files
lose_file None name = None
lose_file (Some files) name = Some (insert files name None)

-- All other names stand.
abbrev pub SameElsewhere : List ℕ → Option Files → Option Files → Type 0
SameElsewhere name before now = (other : List ℕ) → other ≢ name → known_of now other ≡ known_of before other

-- The known bytes of a name, where there are such.
abbrev pub known_bytes : Known → Option (List ℕ)
known_bytes (Holds bytes) = Some bytes
known_bytes _ = None

-- A name whose bytes are these, or that is not there.
abbrev pub held_of : Option (List ℕ) → Known
held_of None = Absent
held_of (Some bytes) = Holds bytes

-- The content that a list of files is; of two equal names the first counts.
abbrev pub files_of : List (List ℕ × List ℕ) → Files
files_of files = from_entries (map (λ file. (file.0, Some file.1)) files)

-- The content with these entries before it; of two equal names the first counts.
abbrev pub laid_over : List (List ℕ × Option (List ℕ)) → Files → Files
laid_over [] files = files
laid_over (entry ∷ entries) files = insert (laid_over entries files) entry.0 entry.1

-- What an entry of a name says, or else a file of that name.
abbrev pub known_in_order : Option (Option (List ℕ)) → Option (List ℕ) → Known
known_in_order (Some (Some bytes)) file = Holds bytes
known_in_order (Some None) file = Unknown
known_in_order None file = held_of file

-- A name of which nothing is known, taken as one that is not there.
abbrev pub absent_if_unknown : Known → Known
absent_if_unknown known = held_of (known_bytes known)
