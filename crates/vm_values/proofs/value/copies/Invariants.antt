-- what was copied so far, with the values still to come, is the whole list
use Rattle.std.proofs.Common.{◌≡◌, ◌++◌, drop}
use Rattle.vm_values.proofs.value.copies.Given as goal

abbrev pub invariant-loop-value : goal.invariant-loop-value
invariant-loop-value l = l.copied ++ drop l.value-index l.values ≡ l.values
