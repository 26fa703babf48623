-- what the check finds is wrong
use Rattle.mosel_run.proofs.Judging.{judged}
use Rattle.mosel_run.proofs.reader.refuse_unchecked.Goals as goal

pub returns-in_err-check-clause-wrong : goal.returns-in_err-check-clause-wrong
returns-in_err-check-clause-wrong c =
    judged c.args.tree.now c.in_err-check.field-0.0 c.from_residual.result c.in_err-check.ensures.fault c.from_residual.ensures.1
