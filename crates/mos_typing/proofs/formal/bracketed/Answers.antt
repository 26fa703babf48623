use Rattle.mos_typing.proofs.Grouped.{no_words, some_words, says_empty, says_inside}
use Rattle.mos_typing.proofs.formal.bracketed.Goals as goal

pub returns-then-is_empty : goal.returns-then-is_empty
returns-then-is_empty c = says_empty c.args.inside.now c.new.result c.new.ensures (no_words c.args.inside.now c.is_empty.result c.is_empty.ensures c.if-is_empty.true)

pub returns-else-is_empty : goal.returns-else-is_empty
returns-else-is_empty c = says_inside c.args.inside.now c.groups.result (some_words c.args.inside.now c.is_empty.result c.is_empty.ensures c.if-is_empty.false) c.groups.ensures
