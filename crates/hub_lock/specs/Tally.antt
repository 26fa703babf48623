-- What the calls of a tally mean.
use Rattle.std.specs.Prelude.{◌≡◌, ℕ, ◌+◌, ◌-◌, ◌^◌, ◌<◌, ◌≤◌, List, length, sum_by}
use Rattle.hub_lock.specs.declared.tally.Put.{Put}
use Rattle.hub_lock.specs.declared.tally.Refusal.{Refusal}
use Rattle.hub_lock.specs.declared.tally.Refusal.TheVariants.{Zero, TooMuch, Full, NoMemory}

-- the sum of all amounts
abbrev pub total : List Put → ℕ
total log = sum_by (λ p. p.amount) log

-- a list that a tally can stand for
abbrev pub IsTally : List Put → Type 0
IsTally log = (total log < 2 ^ 64) × (length log < 2 ^ 32)

-- the amount is put by the lane, and the answer is the new sum
abbrev pub Answers : List Put → ℕ → ℕ → Put → ℕ → Type 0
Answers log lane amount put sum = (put ≡ record { lane = lane; amount = amount }) × (sum ≡ total log + amount)

-- when an amount is refused, for each reason: it is nothing, the sum would not fit, or the list is full. Want of memory
-- may come at any time
abbrev pub Refuses : List Put → ℕ → ℕ → Refusal → Type 0
Refuses log lane amount Zero = amount ≡ 0
Refuses log lane amount TooMuch = 2 ^ 64 ≤ total log + amount
Refuses log lane amount Full = length log ≡ 2 ^ 32 - 1
Refuses log lane amount NoMemory = Unit {0}
