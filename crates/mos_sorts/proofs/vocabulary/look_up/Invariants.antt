-- what is found in the rest is found in all
use Rattle.std.proofs.Common.{◌≡◌, map, drop}
use Rattle.mos_sorts.specs.Vocabulary as spec
use Rattle.mos_sorts.proofs.vocabulary.look_up.Given as goal

abbrev pub invariant-loop-row : goal.invariant-loop-row
invariant-loop-row l =
    spec.look_up l.name (map (λ k. (k.0.now, k.1, k.2, k.3)) (drop l.row-index l.table)) ≡ spec.look_up l.name (map (λ k. (k.0.now, k.1, k.2, k.3)) l.table)
