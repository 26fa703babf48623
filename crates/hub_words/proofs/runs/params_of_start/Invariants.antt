-- what the entries before this one gave last
use Rattle.std.proofs.Common.{◌≡◌, take}
use Rattle.std.specs.Prelude.{option_copied, option_map}
use Rattle.job_calls.specs.Runs.{last_given, start_of_run}
use Rattle.hub_words.proofs.runs.params_of_start.Given as goal

abbrev pub invariant-loop-e : goal.invariant-loop-e
invariant-loop-e l = option_copied l.found ≡ last_given (λ e. option_map (λ start. start.params) (start_of_run l.run_number e)) (take l.e-index l.journal)
