use Rattle.std.proofs.Common.{◌∙◌}
use Rattle.bim_points.proofs.Marked.{carried, same_points}
use Rattle.bim_points.proofs.points.points_by.Goals as goal

pub returns : goal.returns
returns c =
    carried c.points_at.result _ _ (λ points e. e ∙ same_points c.args.marks.now c.args.code.now c.requires.long c.requires.tells) c.points_at.ensures
