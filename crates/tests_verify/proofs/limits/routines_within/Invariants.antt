-- all do where those still to come do
use Rattle.std.proofs.Common.{All, drop}
use Rattle.bim_code.specs.Limits.{RoutineWithin}
use Rattle.tests_verify.proofs.limits.routines_within.Given as goal

abbrev pub invariant-loop-routine : goal.invariant-loop-routine
invariant-loop-routine l = All RoutineWithin (drop l.routine-index l.routines) → All RoutineWithin l.routines
