-- what is left of the one is the same as what is left of the other, where all of it is
use Rattle.std.proofs.Common.{◌≡◌, drop}
use Rattle.mos_constants.specs.Operators.{same_items}
use Rattle.mos_constants.proofs.operators.same_items.Given as goal

abbrev pub invariant-loop-item : goal.invariant-loop-item
invariant-loop-item l = same_items (drop l.item-index l.a) l.rest ≡ same_items l.a l.b
