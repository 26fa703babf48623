-- a run that was given is passed over
use Rattle.std.proofs.Common.{◌∙◌, rules, arith}
use Rattle.hub_words.proofs.Unclaimed.{passed}
use Rattle.hub_words.proofs.jobs.unclaimed.Goals as goal

pub loop-run_number-preserved : goal.loop-run_number-preserved
loop-run_number-preserved c = passed c.args.journal.now c.loop-run_number.run_number _ (omega arith) (search rules) ∙ c.loop-run_number.invariant
