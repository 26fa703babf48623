-- What a sink has, where it is known, and what a write adds to it.

use Rattle.std.specs.Prelude.{◌≡◌, ℕ, ◌≤◌, List, [], ◌++◌, Option, Some, None, length, take, ⊤}
use Rattle.mos_text.specs.declared.sink.Wrote.{Wrote}
use Rattle.mos_text.specs.declared.sink.Wrote.TheVariants.{Took, Failed, NoMemory}

-- The sink's bytes after these are appended.
abbrev pub bytes_after : Option (List ℕ) → List ℕ → Option (List ℕ)
bytes_after None bytes = None
bytes_after (Some before) bytes = Some (before ++ bytes)

-- The part of the piece that a write has taken.
abbrev pub taken_part : Wrote → List ℕ → List ℕ
taken_part (Took n) piece = take n piece
taken_part Failed piece = []
taken_part NoMemory piece = []

-- A write takes no more than there is, and nothing only of nothing.
abbrev pub TakesSome : Wrote → List ℕ → Type 0
TakesSome (Took n) piece = (n ≤ length piece) × (n ≡ 0 → piece ≡ [])
TakesSome Failed piece = ⊤
TakesSome NoMemory piece = ⊤

-- A first part of the bytes has been appended.
abbrev pub AppendedPart : Option (List ℕ) → Option (List ℕ) → List ℕ → Type 0
AppendedPart before now bytes = (n : ℕ) × (n ≤ length bytes) × (now ≡ bytes_after before (take n bytes))
