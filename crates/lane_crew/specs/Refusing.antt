-- What a contract sees of a crew that refuses by list.
use Rattle.std.specs.Prelude.{ℕ, ◌+◌, ◌-◌, ◌^◌, min, Contains, refl}
use Rattle.std.specs.Coded.{Coded, code_by, coded×, coded_ℕ}
use Rattle.mos_text.specs.Calls.{Calls, calls_code}

-- the starts it was asked for, those it is to refuse, and how many were refused
pub record Refusals : Type 0 where
  pub starts : Calls
  pub faults : ℕ

-- it is stored as the pair of its fields
abbrev pub refusals_code : Coded Refusals
refusals_code = code_by (Calls × ℕ) (coded× calls_code coded_ℕ) (λ r. (r.starts, r.faults)) (λ p. record { starts = p.0; faults = p.1 }) (λ _. refl)

-- so many starts more; a 64-bit counter stays at its last value
abbrev pub later : Calls → ℕ → Calls
later calls starts = record calls { made = min (calls.made + starts) (2 ^ 64 - 1) }

-- the start behind so many more is to be refused
abbrev pub Refuses : Calls → ℕ → Type 0
Refuses calls starts = Contains calls.failing (min (calls.made + starts + 1) (2 ^ 64 - 1))
