use Rattle.mos_typing.proofs.Grouped.{no_words, some_words, says_no_words, says_no_formals}
use Rattle.mos_typing.proofs.formal.formals_of_words.Goals as goal

pub returns-then-is_empty : goal.returns-then-is_empty
returns-then-is_empty c = says_no_words c.args.words.now c.new.result c.new.ensures (no_words c.args.words.now c.is_empty.result c.is_empty.ensures c.if-is_empty.true)

pub returns-in-None : goal.returns-in-None
returns-in-None c = says_no_formals c.args.words.now (some_words c.args.words.now c.is_empty.result c.is_empty.ensures c.if-is_empty.false) c.in-None.ensures
