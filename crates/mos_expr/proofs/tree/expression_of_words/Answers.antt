use Rattle.mos_expr.proofs.Whole.{says_expression}
use Rattle.mos_expr.proofs.tree.expression_of_words.Goals as goal

pub returns-in-Ok : goal.returns-in-Ok
returns-in-Ok c = says_expression c.args.words.now c.in-Ok.operand c.tree_of.result c.in-Ok.ensures c.tree_of.ensures
