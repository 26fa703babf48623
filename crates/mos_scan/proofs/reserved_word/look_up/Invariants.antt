use Rattle.std.proofs.Common.{◌≡◌, map, length}
use Rattle.mos_scan.specs.ReservedWords as spec
use Rattle.mos_scan.proofs.reserved_word.look_up.Given as goal

abbrev pub invariant-loop-table : goal.invariant-loop-table
invariant-loop-table l = spec.look_up (map (λ k. (k.0.now, k.1)) l.table) l.word ≡ spec.look_up (map (λ k. (k.0.now, k.1)) l.initial.table) l.word

abbrev pub decreases-loop-table : goal.decreases-loop-table
decreases-loop-table l = length l.table
