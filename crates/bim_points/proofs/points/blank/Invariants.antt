-- as many as passes
use Rattle.std.proofs.Common.{◌≡◌, false, replicate}
use Rattle.bim_points.proofs.points.blank.Given as goal

abbrev pub invariant-loop-byte : goal.invariant-loop-byte
invariant-loop-byte l = l.marks.items ≡ replicate l._byte false
