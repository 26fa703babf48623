-- the runs before run_number were given to lanes, so the least other one is the least from run_number on
use Rattle.std.proofs.Common.{◌≡◌, ◌-◌}
use Rattle.job_calls.specs.Entries.{first_unclaimed, unclaimed_run}
use Rattle.hub_words.proofs.jobs.unclaimed.Given as goal

abbrev pub invariant-loop-run_number : goal.invariant-loop-run_number
invariant-loop-run_number l = first_unclaimed l.journal l.run_number (l.many - l.run_number) ≡ unclaimed_run l.journal
