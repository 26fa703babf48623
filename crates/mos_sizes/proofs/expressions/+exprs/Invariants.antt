-- what is added of the rest comes to what all come to; the count stays within 64 bits
use Rattle.std.proofs.Common.{◌≤◌, ◌^◌, ◌-◌, ◌≡◌, ◌+◌, drop, map}
use Rattle.mos_tree.specs.Children.{in_group}
use Rattle.mos_sizes.specs.SizeCounts.{capped, expr_size, exprs_size, groups_size}
use Rattle.mos_sizes.proofs.expressions.+exprs.Given as goal

abbrev pub invariant-exprs-loop-x : goal.invariant-exprs-loop-x
invariant-exprs-loop-x l = (l.size ≤ 2 ^ 64 - 1) × (capped (l.size + exprs_size (drop l.x-index l.all)) ≡ capped (exprs_size l.all))

abbrev pub invariant-groups-loop-x : goal.invariant-groups-loop-x
invariant-groups-loop-x l =
    (l.size ≤ 2 ^ 64 - 1)
    × (capped (l.size + groups_size (map (in_group expr_size) (drop l.x-index l.all))) ≡ capped (groups_size (map (in_group expr_size) l.all)))
