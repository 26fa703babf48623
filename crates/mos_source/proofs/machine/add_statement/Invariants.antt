use Rattle.std.proofs.Common.{◌≡◌, length}
use Rattle.mos_source.specs.Machine as spec
use Rattle.mos_source.proofs.machine.add_statement.Given as goal

abbrev pub invariant-loop-stack : goal.invariant-loop-stack
invariant-loop-stack l = spec.add_statement l.statement (spec.stack_of l.stack.items) ≡ spec.add_statement l.initial.statement (spec.stack_of l.initial.stack.items)

abbrev pub decreases-loop-stack : goal.decreases-loop-stack
decreases-loop-stack l = length (spec.stack_of l.stack.items)
