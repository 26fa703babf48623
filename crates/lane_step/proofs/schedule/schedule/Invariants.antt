-- what was written so far, and the lanes that are still to be told
use Rattle.std.proofs.Common.{◌≡◌, ◌-◌, ◌++◌}
use Rattle.lane_step.specs.Schedule.{done_entries}
use Rattle.lane_step.proofs.schedule.schedule.Given as goal

abbrev pub invariant-loop-lane : goal.invariant-loop-lane
invariant-loop-lane l = l.journal ++ done_entries l.lane (l.lanes - l.lane) ≡ l.initial.journal ++ done_entries 1 (l.lanes - 1)
