use Rattle.std.proofs.Common.{sym, ◌∙◌}
use Rattle.mos_typing.proofs.Dimensioned.{says_range, says_set, says_over}
use Rattle.mos_typing.proofs.dimension.dimension.Goals as goal

pub returns-then-is_range : goal.returns-then-is_range
returns-then-is_range c = says_range c.args.words.now (sym c.is_range.ensures ∙ c.if-is_range.true)

pub returns-in-Some : goal.returns-in-Some
returns-in-Some c = says_set c.args.words.now c.in-Some.base.now c.base_form.result c.set_dimension.result c.in-Some.ensures c.base_form.ensures c.set_dimension.ensures

pub returns-in-None : goal.returns-in-None
returns-in-None c =
    says_over c.args.words.now c.expression_of_words.result c.index_set.result (sym c.is_range.ensures ∙ c.if-is_range.false) c.in-None.ensures
    c.expression_of_words.ensures c.index_set.ensures
