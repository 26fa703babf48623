-- what was by_address, with what is still to come, is the whole
use Rattle.std.proofs.Common.{◌≡◌, ◌++◌, drop}
use Rattle.mos_vm.specs.ByAddress.{by_address}
use Rattle.mos_vm.proofs.code.by_address.Given as goal

abbrev pub invariant-loop-instruction : goal.invariant-loop-instruction
invariant-loop-instruction l = l.cells.items ++ by_address (drop l.instruction-index l.code) ≡ by_address l.code
