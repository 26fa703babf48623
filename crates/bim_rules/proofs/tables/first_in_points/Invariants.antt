-- what is found, with what breaks a rule in the rest, is the first of all
use Rattle.std.proofs.Common.{◌≡◌, drop, None}
use Rattle.bim_rules.specs.Breaches.{first_of}
use Rattle.bim_rules.specs.Tables.{point_breaches}
use Rattle.bim_rules.proofs.tables.first_in_points.Given as goal

abbrev pub invariant-loop-point : goal.invariant-loop-point
invariant-loop-point l = record { counted : l.number ≡ l.point-index; first : first_of l.found (point_breaches l.image l.number l.before (drop l.point-index l.image.points)) ≡ first_of l.initial.found (point_breaches l.image 0 None l.image.points) }
