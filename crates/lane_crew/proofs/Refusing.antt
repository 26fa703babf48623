-- None of the starts before a number is to be refused.
use Rattle.std.proofs.Common.{◌≡◌, ◌+◌, ◌<◌, ℕ, ⊎_elim, subst, arith}
use Rattle.std.proofs.lemmas.Bool.{cases_lt}

pub up_to : (P : ℕ → Type 0) (n : ℕ) → ((k : ℕ) → k < n → P k) → P n → (k : ℕ) → k < n + 1 → P k
up_to P n before here k less = ⊎_elim (λ below. before k below) (λ above. let same : n ≡ k = omega arith in subst P same here) (cases_lt k n)
