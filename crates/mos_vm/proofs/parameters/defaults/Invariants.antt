-- the values so far, with those of the parameters still to come, are the whole
use Rattle.std.proofs.Common.{◌≡◌, ◌++◌, drop}
use Rattle.mos_vm.specs.Givens.{defaults_of}
use Rattle.mos_vm.proofs.parameters.defaults.Given as goal

abbrev pub invariant-loop-formal : goal.invariant-loop-formal
invariant-loop-formal l = l.values ++ defaults_of (drop l.formal-index l.formals) ≡ defaults_of l.formals
