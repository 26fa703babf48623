-- no entry before this one asked the run
use Rattle.std.proofs.Common.{◌≡◌, false, take}
use Rattle.std.specs.List.{list_any}
use Rattle.job_calls.specs.Models.{asks}
use Rattle.job_calls.specs.Moments.{moments}
use Rattle.hub_words.proofs.models.was_asked.Given as goal

abbrev pub invariant-loop-i : goal.invariant-loop-i
invariant-loop-i l = list_any (asks l.run_number) (moments (take l.i l.journal)) ≡ false
