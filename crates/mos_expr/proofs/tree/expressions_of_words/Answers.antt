use Rattle.mos_expr.proofs.Whole.{says_expressions}
use Rattle.mos_expr.proofs.tree.expressions_of_words.Goals as goal

pub returns-in-Ok : goal.returns-in-Ok
returns-in-Ok c = says_expressions c.args.words.now c.in-Ok.parts c.trees_of.result c.in-Ok.ensures c.trees_of.ensures
