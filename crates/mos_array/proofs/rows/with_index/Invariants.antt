-- what was made so far, with the lists still to come, is all
use Rattle.std.proofs.Common.{◌≡◌, ◌++◌, drop}
use Rattle.mos_array.specs.Rows.{with_index}
use Rattle.mos_array.proofs.rows.with_index.Given as goal

abbrev pub invariant-loop-list : goal.invariant-loop-list
invariant-loop-list l = l.all ++ with_index (drop l.list-index l.lists) l.members ≡ with_index l.lists l.members
