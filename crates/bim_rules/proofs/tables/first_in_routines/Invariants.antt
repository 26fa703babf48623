-- what is found, with what breaks a rule in the rest, is the first of all
use Rattle.std.proofs.Common.{◌≡◌, drop, None}
use Rattle.bim_rules.specs.Breaches.{first_of}
use Rattle.bim_rules.specs.Tables.{routine_breaches}
use Rattle.bim_rules.proofs.tables.first_in_routines.Given as goal

abbrev pub invariant-loop-routine : goal.invariant-loop-routine
invariant-loop-routine l = record { counted : l.number ≡ l.routine-index; first : first_of l.found (routine_breaches l.image l.number l.before (drop l.routine-index l.image.routines)) ≡ first_of l.initial.found (routine_breaches l.image 0 None l.image.routines) }
