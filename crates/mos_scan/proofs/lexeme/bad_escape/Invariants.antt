use Rattle.std.proofs.Common.{◌≡◌, ◌+◌, length, false}
use Rattle.mos_scan.specs.Tokens as spec
use Rattle.mos_scan.proofs.lexeme.bad_escape.Given as goal

abbrev pub invariant-loop-rest : goal.invariant-loop-rest
invariant-loop-rest l = record { value : spec.bad_escape l.escaped l.at l.rest ≡ spec.bad_escape false 0 l.text; room : l.at + length l.rest ≡ length l.text }

abbrev pub decreases-loop-rest : goal.decreases-loop-rest
decreases-loop-rest l = length l.rest
