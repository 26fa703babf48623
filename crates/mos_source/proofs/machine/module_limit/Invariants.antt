use Rattle.std.proofs.Common.{◌≡◌, length}
use Rattle.mos_source.specs.Limits.{module_limit}
use Rattle.mos_source.proofs.machine.module_limit.Given as goal

abbrev pub invariant-loop-rest : goal.invariant-loop-rest
invariant-loop-rest l = module_limit l.rest ≡ module_limit l.modules

abbrev pub decreases-loop-rest : goal.decreases-loop-rest
decreases-loop-rest l = length l.rest
