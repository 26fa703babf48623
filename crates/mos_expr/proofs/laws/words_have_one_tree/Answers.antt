use Rattle.mos_expr.proofs.Whole.{one_expression, one_list, one_index}
use Rattle.mos_expr.proofs.laws.words_have_one_tree.Goals as goal

pub returns-clause-one : goal.returns-clause-one
returns-clause-one c = one_expression

pub returns-clause-list : goal.returns-clause-list
returns-clause-list c = one_list

pub returns-clause-index : goal.returns-clause-index
returns-clause-index c = one_index
