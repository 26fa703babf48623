-- what the entries before this one gave last
use Rattle.std.proofs.Common.{◌≡◌, take}
use Rattle.job_calls.specs.Runs.{last_given, source_started}
use Rattle.job_calls.specs.Moments.{moments}
use Rattle.hub_words.proofs.runs.source_of_start.Given as goal

abbrev pub invariant-loop-i : goal.invariant-loop-i
invariant-loop-i l = l.found ≡ last_given (source_started l.run_number) (moments (take l.i l.journal))
