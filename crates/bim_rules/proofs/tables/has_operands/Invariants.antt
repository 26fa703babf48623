-- the rest decides
use Rattle.std.proofs.Common.{◌≡◌, drop}
use Rattle.std.specs.List.{list_all}
use Rattle.bim_rules.specs.Tables.{has_operand}
use Rattle.bim_rules.proofs.tables.has_operands.Given as goal

abbrev pub invariant-loop-operand : goal.invariant-loop-operand
invariant-loop-operand l = list_all (has_operand l.image) (drop l.operand-index l.operands) ≡ list_all (has_operand l.image) l.operands
