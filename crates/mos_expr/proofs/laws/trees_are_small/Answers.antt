use Rattle.mos_expr.proofs.Sizes.{expression_is_small, expressions_are_small, index_is_small}
use Rattle.mos_expr.proofs.laws.trees_are_small.Goals as goal

pub returns-clause-one : goal.returns-clause-one
returns-clause-one c = expression_is_small

pub returns-clause-list : goal.returns-clause-list
returns-clause-list c = expressions_are_small

pub returns-clause-index : goal.returns-clause-index
returns-clause-index c = index_is_small
