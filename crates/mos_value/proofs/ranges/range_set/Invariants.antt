-- the integers so far, and those still to come, are those of the range
use Rattle.std.proofs.Common.{◌≡◌, ◌++◌}
use Rattle.std.specs.Prelude.{◌≤ℤ◌}
use Rattle.mos_value.specs.Ranges.{range_members}
use Rattle.mos_value.proofs.ranges.range_set.Given as goal

abbrev pub invariant-loop-number : goal.invariant-loop-number
invariant-loop-number l = record {
  so_far : l.members ++ range_members l.number l.b ≡ range_members l.a l.b;
  begun : l.a ≤ℤ l.number;
}
