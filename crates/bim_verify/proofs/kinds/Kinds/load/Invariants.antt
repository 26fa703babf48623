-- what is still to come goes on top
use Rattle.std.proofs.Common.{◌≡◌, ◌++◌, drop, map, reverse}
use Rattle.bim_verify.specs.Kinds.{kind_of}
use Rattle.bim_verify.proofs.kinds.Kinds.load.Given as goal

abbrev pub invariant-loop-operand : goal.invariant-loop-operand
invariant-loop-operand l = reverse (map (kind_of l.image) (drop l.operand-index l.operands)) ++ l.self ≡ reverse (map (kind_of l.image) l.operands)
