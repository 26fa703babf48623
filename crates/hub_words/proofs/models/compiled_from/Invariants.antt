-- what the entries before this one gave last
use Rattle.std.proofs.Common.{◌≡◌, take}
use Rattle.std.specs.Prelude.{option_copied}
use Rattle.job_calls.specs.Models.{compiled_from}
use Rattle.hub_words.proofs.models.compiled_from.Given as goal

abbrev pub invariant-loop-e : goal.invariant-loop-e
invariant-loop-e l = option_copied l.found ≡ compiled_from l.file (take l.e-index l.journal)
