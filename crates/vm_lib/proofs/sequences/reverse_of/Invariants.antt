-- behind the items so far stand the others, turned
use Rattle.std.proofs.Common.{◌≡◌, ◌++◌, length, reverse}
use Rattle.vm_lib.proofs.sequences.reverse_of.Given as goal

abbrev pub invariant-loop-rest : goal.invariant-loop-rest
invariant-loop-rest l = l.reversed ++ reverse l.rest ≡ reverse l.items

abbrev pub decreases-loop-rest : goal.decreases-loop-rest
decreases-loop-rest l = length l.rest
