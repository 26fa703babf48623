-- what is found of the pieces still to come is found of all
use Rattle.std.proofs.Common.{◌≡◌, drop}
use Rattle.mos_check.specs.Names.{check_tops}
use Rattle.mos_check.proofs.names.check_tops.Given as goal

abbrev pub invariant-loop-top : goal.invariant-loop-top
invariant-loop-top l = check_tops (drop l.top-index l.tops) l.known ≡ check_tops l.tops l.initial.known
