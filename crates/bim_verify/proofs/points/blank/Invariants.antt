-- as many as passes
use Rattle.std.proofs.Common.{◌≡◌, None, replicate}
use Rattle.bim_verify.proofs.points.blank.Given as goal

abbrev pub invariant-loop-byte : goal.invariant-loop-byte
invariant-loop-byte l = l.numbers.items ≡ replicate l._byte None
