-- what is added of the rest comes to what all come to; the count stays within 64 bits
use Rattle.std.proofs.Common.{◌≤◌, ◌^◌, ◌-◌, ◌≡◌, ◌+◌, drop}
use Rattle.mos_sizes.specs.SizeCounts.{capped, formal_types_size}
use Rattle.mos_sizes.proofs.declarations.formal_types.Given as goal

abbrev pub invariant-loop-x : goal.invariant-loop-x
invariant-loop-x l = (l.size ≤ 2 ^ 64 - 1) × (capped (l.size + formal_types_size (drop l.x-index l.all)) ≡ capped (formal_types_size l.all))
