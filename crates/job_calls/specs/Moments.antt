-- Each entry of a journal beside the entries before it: for what an entry means by those.

use Rattle.std.specs.Prelude.{ℕ, List, [], ◌∷◌, ◌++◌, length}
use Rattle.job_calls.specs.declared.entry.Entry.{Entry}

-- an entry, and the entries before it
pub record Moment : Type 0 where
  pub before : List Entry
  pub entry : Entry

-- the moments of entries that stand behind these
abbrev pub moments_from : List Entry → List Entry → List Moment
moments_from before [] = []
moments_from before (e ∷ es) = record { before = before; entry = e } ∷ moments_from (before ++ e ∷ []) es

-- the moments of a journal, one for each entry
abbrev pub moments : List Entry → List Moment
moments journal = moments_from [] journal

-- the place of the moment's entry
abbrev pub place_of : Moment → ℕ
place_of m = length m.before
