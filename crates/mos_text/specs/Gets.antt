-- What a folder may answer to `get`, by what is known of the name.

use Rattle.std.specs.Prelude.{◌≡◌, ℕ, ◌<◌, ◌≤◌, length, ⊤}
use Rattle.mos_text.specs.Content.{Known, Unknown, Absent, Holds}
use Rattle.mos_text.specs.declared.folder.Got.{Got}
use Rattle.mos_text.specs.declared.folder.Got.TheVariants.{Bytes, Missing, TooLarge, Failed, NoMemory}

-- The answers that a name has under a limit on the length; a fault of the folder and want of memory may always come.
abbrev pub Answers : Known → ℕ → Got → Type 0
Answers Unknown limit (Bytes bytes) = length bytes ≤ limit
Answers Unknown limit Missing = ⊤
Answers Unknown limit TooLarge = ⊤
Answers Absent limit (Bytes bytes) = ⊥
Answers Absent limit Missing = ⊤
Answers Absent limit TooLarge = ⊥
Answers (Holds held) limit (Bytes bytes) = (bytes ≡ held) × (length held ≤ limit)
Answers (Holds held) limit Missing = ⊥
Answers (Holds held) limit TooLarge = limit < length held
Answers known limit Failed = ⊤
Answers known limit NoMemory = ⊤
