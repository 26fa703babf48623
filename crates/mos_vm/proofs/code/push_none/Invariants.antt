-- as many empty bytes as passes
use Rattle.std.proofs.Common.{◌≡◌, ◌++◌, None, replicate}
use Rattle.mos_vm.proofs.code.push_none.Given as goal

abbrev pub invariant-loop-byte : goal.invariant-loop-byte
invariant-loop-byte l = l.cells.items ≡ l.initial.cells.items ++ replicate l._byte None
