use Rattle.std.proofs.Common.{◌≡◌, map, length}
use Rattle.mos_scan.specs.Lexemes as spec
use Rattle.mos_scan.proofs.reserved_word.front_end.Given as goal

abbrev pub invariant-loop-table : goal.invariant-loop-table
invariant-loop-table l = spec.front_end (map (λ k. (k.0.now, k.1)) l.table) l.text ≡ spec.front_end (map (λ k. (k.0.now, k.1)) l.initial.table) l.text

abbrev pub decreases-loop-table : goal.decreases-loop-table
decreases-loop-table l = length l.table
