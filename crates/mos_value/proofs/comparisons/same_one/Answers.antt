-- the test decides it
use Rattle.std.proofs.Common.{sym, ◌∙◌}
use Rattle.mos_value.proofs.SameScalars.{is_same-Decides}
use Rattle.mos_value.proofs.comparisons.same_one.Goals as goal

pub returns-clause-equal : goal.returns-clause-equal
returns-clause-equal c =
    let decides = is_same-Decides c.args.a.now c.args.b.now in
    (λ true_result. decides.0 (sym c.is_same.ensures ∙ true_result), λ equal. c.is_same.ensures ∙ decides.1 equal)
