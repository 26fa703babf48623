use Rattle.mos_expr.proofs.Whole.{says_index}
use Rattle.mos_expr.proofs.tree.index_of_words.Goals as goal

pub returns-in-Ok : goal.returns-in-Ok
returns-in-Ok c = says_index c.args.words.now c.in-Ok.whole c.index_of.result c.in-Ok.ensures c.index_of.ensures
