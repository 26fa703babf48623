-- What a piece means, unless it breaks a rule.

use Rattle.std.specs.Prelude.{ℕ, Result, Ok}
use Rattle.mos_types.specs.Faults.{Fault, judged}
use Rattle.mos_checked.specs.Judging.{Piece, then_do}

-- what a piece on this line means, unless it breaks a rule
abbrev pub taken : {A : Type 0} → ℕ → Piece A → Result A Fault
taken line piece = then_do (judged line piece.0 (tt {0})) (λ ok. Ok piece.1)
