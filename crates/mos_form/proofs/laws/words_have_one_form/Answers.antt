use Rattle.mos_form.specs.Phrases.{is_phrase, no_phrase}
use Rattle.mos_form.proofs.OneForm.{have_one_form}
use Rattle.mos_form.proofs.laws.words_have_one_form.Goals as goal

pub returns-clause-some : goal.returns-clause-some
returns-clause-some c words none = none _ (no_phrase (λ p k. none _ (is_phrase p k)))

pub returns-clause-one : goal.returns-clause-one
returns-clause-one c =
    have_one_form c.expressions_have_plain_words.ensures.one c.expressions_have_plain_words.ensures.list
    c.words_have_one_tree.ensures.one c.words_have_one_tree.ensures.list c.words_have_one_tree.ensures.index
    c.words_are_one_type.ensures.type_form c.words_are_one_type.ensures.formals
