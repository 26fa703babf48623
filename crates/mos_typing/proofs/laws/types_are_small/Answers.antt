use Rattle.mos_typing.proofs.Sizes.{type_is_small, formals_are_small}
use Rattle.mos_typing.proofs.laws.types_are_small.Goals as goal

pub returns-clause-type_form : goal.returns-clause-type_form
returns-clause-type_form c = type_is_small c.trees_are_small.ensures.one

pub returns-clause-formals : goal.returns-clause-formals
returns-clause-formals c = formals_are_small c.trees_are_small.ensures.one
