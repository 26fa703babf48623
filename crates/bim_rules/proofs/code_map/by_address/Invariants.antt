-- the cells so far, with those still to come, are all
use Rattle.std.proofs.Common.{◌≡◌, ◌++◌, drop}
use Rattle.bim_rules.specs.ByAddress.{by_address}
use Rattle.bim_rules.proofs.code_map.by_address.Given as goal

abbrev pub invariant-loop-instruction : goal.invariant-loop-instruction
invariant-loop-instruction l = l.cells.items ++ by_address (drop l.instruction-index l.code) ≡ by_address l.code
