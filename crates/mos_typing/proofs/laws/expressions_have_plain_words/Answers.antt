use Rattle.mos_typing.proofs.Cuts.{syntax_goes, list_goes, over_goes}
use Rattle.mos_typing.proofs.laws.expressions_have_plain_words.Goals as goal

pub returns-clause-one : goal.returns-clause-one
returns-clause-one c s = (syntax_goes 0 s).all

pub returns-clause-list : goal.returns-clause-list
returns-clause-list c ss = (list_goes 0 ss).all

pub returns-clause-index : goal.returns-clause-index
returns-clause-index c i = (over_goes 0 i).all
