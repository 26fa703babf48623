-- Calls of one kind that are numbered from 1, some of which are to fail.

use Rattle.std.specs.Prelude.{ℕ, ◌+◌, ◌-◌, ◌^◌, List, min, Contains, refl}
use Rattle.std.specs.Coded.{Coded, code_by, coded×, coded_ℕ, coded_list}

-- how many calls there were, and which are to fail
pub record Calls : Type 0 where
  -- how many there were
  pub made : ℕ
  -- the numbers of those that fail
  pub failing : List ℕ

-- calls are stored as the pair of their fields
abbrev pub calls_code : Coded Calls
calls_code = code_by (ℕ × List ℕ) (coded× coded_ℕ (coded_list coded_ℕ)) (λ c. (c.made, c.failing)) (λ p. record { made = p.0; failing = p.1 }) (λ _. refl)

-- none made yet
abbrev pub calls_of : List ℕ → Calls
calls_of failing = record { made = 0; failing = failing }

-- one more; a 64-bit counter stays at its last value
abbrev pub one_more : ℕ → ℕ
one_more n = min (n + 1) (2 ^ 64 - 1)

-- the next call is to fail
abbrev pub FailsNext : Calls → Type 0
FailsNext calls = Contains calls.failing (one_more calls.made)

-- the calls after one more
abbrev pub after_one : Calls → Calls
after_one calls = record calls { made = one_more calls.made }
