use Rattle.mos_typing.proofs.Shaped.{none_of, none_closed}
use Rattle.mos_typing.proofs.shape.array_parts.Goals as goal

pub returns-in_default-before_of : goal.returns-in_default-before_of
returns-in_default-before_of c = none_of c.args.words.now c.in-Some.rest.now c.in-Some.ensures c.in_default-before_of.ensures

pub returns-in-None : goal.returns-in-None
returns-in-None c =
    none_closed c.args.words.now c.in-Some.rest.now c.in-Some-before_of.closed.now c.in-Some-before_of.base.now c.in-Some.ensures c.in-Some-before_of.ensures c.in-None.ensures
