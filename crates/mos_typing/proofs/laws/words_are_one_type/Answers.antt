use Rattle.mos_typing.proofs.OneWay.{one_type, one_list}
use Rattle.mos_typing.proofs.laws.words_are_one_type.Goals as goal

pub returns-clause-type_form : goal.returns-clause-type_form
returns-clause-type_form c = one_type c.words_have_one_tree.ensures.one

pub returns-clause-formals : goal.returns-clause-formals
returns-clause-formals c = one_list c.words_have_one_tree.ensures.one
