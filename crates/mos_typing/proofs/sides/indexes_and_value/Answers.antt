use Rattle.mos_typing.proofs.Beside.{says_sides}
use Rattle.mos_typing.proofs.sides.indexes_and_value.Goals as goal

pub returns : goal.returns
returns c = says_sides c.args.indexes.now c.args.value.now c.some_expressions_of_words-indexes.result c.expression_of_words.result c.both.result c.some_expressions_of_words-indexes.ensures c.expression_of_words.ensures c.both.ensures
