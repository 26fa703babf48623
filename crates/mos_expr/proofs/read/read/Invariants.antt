use Rattle.std.proofs.Common.{◌≡◌, length}
use Rattle.mos_expr.specs.Machine.{stack_of}
use Rattle.mos_expr.specs.Reader as reads
use Rattle.mos_expr.proofs.read.read.Given as goal

abbrev pub invariant-loop-rest : goal.invariant-loop-rest
invariant-loop-rest l = reads.read l.mode (stack_of l.stack.items) l.rest ≡ reads.read l.initial.mode (stack_of l.initial.stack.items) l.initial.rest

abbrev pub decreases-loop-rest : goal.decreases-loop-rest
decreases-loop-rest l = length l.rest
