use Rattle.mos_expr.proofs.Whole.{says_no_expressions, says_some_expressions, no_words, some_words}
use Rattle.mos_expr.proofs.tree.some_expressions_of_words.Goals as goal

pub returns-in-empty : goal.returns-in-empty
returns-in-empty c = says_no_expressions c.args.words.now (no_words c.args.words.now c.in-empty.len_below)

pub returns-in-len1-up : goal.returns-in-len1-up
returns-in-len1-up c = says_some_expressions c.args.words.now c.expressions_of_words.result (some_words c.args.words.now c.in-len1-up.len_at_least) c.expressions_of_words.ensures
