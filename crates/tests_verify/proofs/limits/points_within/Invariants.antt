-- all do where those still to come do
use Rattle.std.proofs.Common.{◌<◌, ◌^◌, All, length, drop}
use Rattle.tests_verify.proofs.limits.points_within.Given as goal

abbrev pub invariant-loop-point : goal.invariant-loop-point
invariant-loop-point l = All (λ point. length point.stack < 2 ^ 16) (drop l.point-index l.points) → All (λ point. length point.stack < 2 ^ 16) l.points
