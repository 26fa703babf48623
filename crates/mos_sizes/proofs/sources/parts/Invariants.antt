-- what is added of the rest comes to what all come to; the count stays within 64 bits
use Rattle.std.proofs.Common.{◌≤◌, ◌^◌, ◌-◌, ◌≡◌, ◌+◌, drop, sum, map}
use Rattle.mos_sizes.specs.SizeCounts.{capped, part_size}
use Rattle.mos_sizes.proofs.sources.parts.Given as goal

abbrev pub invariant-loop-x : goal.invariant-loop-x
invariant-loop-x l = (l.size ≤ 2 ^ 64 - 1) × (capped (l.size + sum (map part_size (drop l.x-index l.all))) ≡ capped (sum (map part_size l.all)))
