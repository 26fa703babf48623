-- what is left of the one is the same as what is left of the other, where all of it is
use Rattle.std.proofs.Common.{◌≡◌, drop}
use Rattle.vm_lib.specs.Operations.{same_items}
use Rattle.vm_values.proofs.comparisons.same_items.Given as goal

abbrev pub invariant-loop-item : goal.invariant-loop-item
invariant-loop-item l = same_items (drop l.item-index l.a) l.rest ≡ same_items l.a l.b
