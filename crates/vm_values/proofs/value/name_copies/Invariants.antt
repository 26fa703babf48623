-- what was copied so far, with the names still to come, is the whole list
use Rattle.std.proofs.Common.{◌≡◌, ◌++◌, drop}
use Rattle.vm_values.proofs.value.name_copies.Given as goal

abbrev pub invariant-loop-name : goal.invariant-loop-name
invariant-loop-name l = l.copied ++ drop l.name-index l.names ≡ l.names
