-- The marks that turns leave with seats, and the one order in which all turns stand.
use Rattle.std.specs.Prelude.{◌≡◌, ◌==◌, ℕ, ◌+◌, ◌<◌, ◌⊎◌, List, [], ◌∷◌, ◌++◌, count_by}
use Rattle.hub_lock.specs.declared.mark.Mark.{Mark}

-- the mark of a turn
abbrev pub mark : ℕ → ℕ → Mark
mark ticket found = record { ticket = ticket; found = found }

-- how often a ticket stands among marks
abbrev pub times : ℕ → List Mark → ℕ
times ticket marks = count_by (λ m. m.ticket == ticket) marks

-- the last of these turns found so many entries
abbrev pub FoundLast : List Mark → ℕ → Type 0
FoundLast marks found = (before : List Mark) × (ticket : ℕ) × (marks ≡ before ++ mark ticket found ∷ [])

-- numbers of entries, by tickets: each turn finds as many as the turn before it, or one more
abbrev pub IsOrder : (ℕ → ℕ) → Type 0
IsOrder at = (turn : ℕ) → (at (turn + 1) ≡ at turn) ⊎ (at (turn + 1) ≡ at turn + 1)

-- the mark is of one of so many turns, and found what the order says
abbrev pub IsMarkOf : (ℕ → ℕ) → ℕ → Mark → Type 0
IsMarkOf at turns m = (m.ticket < turns) × (m.found ≡ at m.ticket)
