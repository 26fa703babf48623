-- the items so far, with those still to come, are all of them
use Rattle.std.proofs.Common.{◌≡◌, ◌++◌, drop}
use Rattle.vm_lib.proofs.sequences.items_of.Given as goal

abbrev pub invariant-loop-scalar : goal.invariant-loop-scalar
invariant-loop-scalar l = l.items ++ drop l.scalar-index l.scalars ≡ l.scalars
