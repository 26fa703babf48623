-- Words on lists of entries, each of one lane.
use Rattle.std.specs.Prelude.{◌≡◌, ◌==◌, ◌≤◌, ℕ, List, [], ◌++◌}
use Rattle.std.specs.List.{filter}

-- the list begins with all that was seen
abbrev pub StartsWith : {X : Type 0} → List X → List X → Type 0
StartsWith {X} log seen = (rest : List X) × (log ≡ seen ++ rest)

module _ {E : Type 0} where
  -- the entries of one lane
  abbrev pub entries_of : (E → ℕ) → ℕ → List E → List E
  entries_of lane_of lane log = filter (λ e. lane_of e == lane) log

  -- no lane from this one on has an entry
  abbrev pub HasNoneFrom : (E → ℕ) → ℕ → List E → Type 0
  HasNoneFrom lane_of least log = (lane : ℕ) → least ≤ lane → entries_of lane_of lane log ≡ []
