-- Pieces in the order of the source: behind the first one that breaks a rule nothing is looked at.

use Rattle.std.specs.Prelude.{Option, Result, Ok, Err}
use Rattle.mos_text.specs.declared.kind.Kind.{Kind}

-- what a piece says: what counts of the rules that it breaks, and what it means
abbrev pub Piece : Type 0 → Type 0
Piece A = Option Kind × A

-- what comes behind pieces that break no rule
abbrev pub then_do : {A B E : Type 0} → Result A E → (A → Result B E) → Result B E
then_do (Ok a) go = go a
then_do (Err fault) go = Err fault
