-- What is found beforehand of the files that a command wants, as one value.

use Rattle.std.specs.Prelude.{ℕ, List, [], ◌∷◌, Option, length, nat_le, if◌then◌else◌}
use Rattle.mos_text.specs.Content.{Files, Known, Unknown, Absent, Holds, known_of}
use Rattle.mosel_run.specs.declared.wanted.Wanted.{Wanted}

-- all are there and in size, with these bytes; or the first that is not is not there, or is too long; or
-- of the first that may not be nothing is known
pub data Finding : Type 0 where
  AllThere : (sources : List (List ℕ)) → Finding
  FirstAbsent : (name : List ℕ) → Finding
  FirstTooLong : (name : List ℕ) → Finding
  NotKnown : Finding

-- the same with these bytes before them
abbrev pub behind : List ℕ → Finding → Finding
behind bytes (AllThere sources) = AllThere (bytes ∷ sources)
behind bytes (FirstAbsent name) = FirstAbsent name
behind bytes (FirstTooLong name) = FirstTooLong name
behind bytes NotKnown = NotKnown

-- by what is known of the first, and the finding of the others
abbrev pub found_with : Wanted → Known → Finding → Finding
found_with file Unknown others = NotKnown
found_with file Absent others = FirstAbsent file.name
found_with file (Holds bytes) others =
    if nat_le (length bytes) file.limit then behind bytes others else FirstTooLong file.name

abbrev pub finding_of : Option Files → List Wanted → Finding
finding_of content [] = AllThere []
finding_of content (file ∷ files) = found_with file (known_of content file.name) (finding_of content files)
