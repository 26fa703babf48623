use Rattle.std.proofs.Common.{◌≡◌, ◌≤◌, length}
use Rattle.mos_scan.specs.Tokens as spec
use Rattle.mos_scan.proofs.number.number.Given as goal

abbrev pub invariant-loop-rest : goal.invariant-loop-rest
invariant-loop-rest l = record { value : spec.number_from l.value l.rest ≡ spec.number_from 0 l.digits; small : l.value ≤ 21474836725 }

abbrev pub decreases-loop-rest : goal.decreases-loop-rest
decreases-loop-rest l = length l.rest
