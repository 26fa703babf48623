use Rattle.std.proofs.Common.{◌≡◌, length}
use Rattle.mos_expr.specs.Machine as spec
use Rattle.mos_expr.proofs.machine.fold_frames.Given as goal

abbrev pub invariant-loop-alloc : goal.invariant-loop-alloc
invariant-loop-alloc l = spec.fold_frames l.operand (spec.stack_of l.stack.items) ≡ spec.fold_frames l.initial.operand (spec.stack_of l.initial.stack.items)

abbrev pub decreases-loop-alloc : goal.decreases-loop-alloc
decreases-loop-alloc l = length l.stack.items
