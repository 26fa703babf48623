-- The files that a command wants, in order, and how the folder gives them.

use Rattle.std.specs.Prelude.{◌≡◌, ◌≢◌, ℕ, List, [], ◌∷◌, Option, ◌⊎◌}
use Rattle.mos_text.specs.Content.{Files, Unknown, known_of}
use Rattle.mos_text.specs.Gets.{Answers}
use Rattle.mos_text.specs.declared.folder.Got.{Got}
use Rattle.mos_text.specs.declared.folder.Got.TheVariants.{Bytes}
use Rattle.mosel_run.specs.declared.wanted.Wanted.{Wanted}

-- the folder can give this file, with some bytes or other
abbrev pub CanBeHad : Option Files → Wanted → Type 0
CanBeHad content file = (bytes : List ℕ) × Answers (known_of content file.name) file.limit (Bytes bytes)

-- of these names, up to the first whose file cannot be had, it is known whether there is a file, and with which bytes
abbrev pub AreKnown : Option Files → List Wanted → Type 0
AreKnown content [] = Unit {0}
AreKnown content (file ∷ files) = (known_of content file.name ≢ Unknown) × (CanBeHad content file → AreKnown content files)

-- the folder gives these bytes for all of these files
abbrev pub AreRead : Option Files → List Wanted → List (List ℕ) → Type 0
AreRead content [] [] = Unit {0}
AreRead content [] (bytes ∷ sources) = ⊥
AreRead content (file ∷ files) [] = ⊥
AreRead content (file ∷ files) (bytes ∷ sources) =
    Answers (known_of content file.name) file.limit (Bytes bytes) × AreRead content files sources

-- the first of these files that the folder does not give has this name, and the folder answers so
abbrev pub IsUnread : Option Files → List Wanted → List ℕ → Got → Type 0
IsUnread content [] name got = ⊥
IsUnread content (file ∷ files) name got =
    ((file.name ≡ name) × Answers (known_of content file.name) file.limit got)
    ⊎ (CanBeHad content file × IsUnread content files name got)
