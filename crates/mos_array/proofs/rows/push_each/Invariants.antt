-- what was put so far, with the members still to come, is all
use Rattle.std.proofs.Common.{◌≡◌, ◌++◌, drop}
use Rattle.mos_array.specs.Rows.{with_each}
use Rattle.mos_array.proofs.rows.push_each.Given as goal

abbrev pub invariant-loop-member : goal.invariant-loop-member
invariant-loop-member l = l.all ++ with_each l.at (drop l.member-index l.members) ≡ l.initial.all ++ with_each l.at l.members
