-- the integers so far, and those still to come, are the set of the items
use Rattle.std.proofs.Common.{◌≡◌, drop}
use Rattle.mos_value.specs.Sets.{union, set_from}
use Rattle.mos_value.specs.Indexes.{integers}
use Rattle.mos_value.proofs.index.integers_of.Given as goal

abbrev pub invariant-loop-item : goal.invariant-loop-item
invariant-loop-item l = union (integers l.numbers.keys) (drop l.item-index l.items) ≡ set_from l.items
