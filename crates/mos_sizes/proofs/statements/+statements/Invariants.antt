-- what is added of the rest comes to what all come to; the count stays within 64 bits
use Rattle.std.proofs.Common.{◌≤◌, ◌^◌, ◌-◌, ◌≡◌, ◌+◌, drop, sum, map}
use Rattle.mos_tree.specs.Children.{in_arm, in_alternative}
use Rattle.mos_sizes.specs.SizeCounts.{capped, statement_size, arms_size, alternatives_size}
use Rattle.mos_sizes.proofs.statements.+statements.Given as goal

abbrev pub invariant-statements-loop-x : goal.invariant-statements-loop-x
invariant-statements-loop-x l =
    (l.size ≤ 2 ^ 64 - 1) × (capped (l.size + sum (map statement_size (drop l.x-index l.all))) ≡ capped (sum (map statement_size l.all)))

abbrev pub invariant-arms-loop-arm : goal.invariant-arms-loop-arm
invariant-arms-loop-arm l =
    (l.size ≤ 2 ^ 64 - 1)
    × (capped (l.size + arms_size (map (in_arm statement_size) (drop l.arm-index l.all))) ≡ capped (arms_size (map (in_arm statement_size) l.all)))

abbrev pub invariant-arms-loop-x : goal.invariant-arms-loop-x
invariant-arms-loop-x l =
    (l.size ≤ 2 ^ 64 - 1)
    × (capped (l.size + sum (map statement_size (drop l.x-index l.x-items)) + arms_size (map (in_arm statement_size) (drop (l.arm-index + 1) l.all)))
    ≡ capped (arms_size (map (in_arm statement_size) l.all)))

abbrev pub invariant-alternatives-loop-x : goal.invariant-alternatives-loop-x
invariant-alternatives-loop-x l =
    (l.size ≤ 2 ^ 64 - 1)
    × (capped (l.size + alternatives_size (map (in_alternative statement_size) (drop l.x-index l.all)))
    ≡ capped (alternatives_size (map (in_alternative statement_size) l.all)))
