use Rattle.std.proofs.Common.{◌≡◌, ◌+◌, length}
use Rattle.mos_scan.specs.Tokens as spec
use Rattle.mos_scan.proofs.lexeme.comment_end.Given as goal

abbrev pub invariant-loop-rest : goal.invariant-loop-rest
invariant-loop-rest l = record { value : spec.comment_end l.at l.rest ≡ spec.comment_end 2 l.text; room : l.at + length l.rest ≡ length l.text + 2 }

abbrev pub decreases-loop-rest : goal.decreases-loop-rest
decreases-loop-rest l = length l.rest
