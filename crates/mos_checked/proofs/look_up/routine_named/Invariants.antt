-- what is found in the rest is found in all
use Rattle.std.proofs.Common.{◌≡◌, drop}
use Rattle.mos_checked.specs.Named.{routine_named}
use Rattle.mos_checked.proofs.look_up.routine_named.Given as goal

abbrev pub invariant-loop-routine : goal.invariant-loop-routine
invariant-loop-routine l = routine_named l.name (drop l.routine-index l.all) ≡ routine_named l.name l.all
