-- what is added of the rest comes to what all come to; the count stays within 64 bits
use Rattle.std.proofs.Common.{◌≤◌, ◌^◌, ◌-◌, ◌≡◌, ◌+◌, drop, ◌*◌}
use Rattle.mos_sizes.specs.SizeCounts.{capped, routine_variables}
use Rattle.mos_sizes.proofs.sources.routine_variables.Given as goal

abbrev pub invariant-loop-x : goal.invariant-loop-x
invariant-loop-x l = (l.size ≤ 2 ^ 64 - 1) × (capped (l.size + 24 * routine_variables (drop l.x-index l.all)) ≡ capped (24 * routine_variables l.all))
