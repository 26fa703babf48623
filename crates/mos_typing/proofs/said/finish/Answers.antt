use Rattle.mos_typing.proofs.Joins.{finished}
use Rattle.mos_typing.proofs.said.finish.Goals as goal

pub returns : goal.returns
returns g c = finished c.args.done c.args.read c.in_ok-with.field-0 c.ok_or.result c.in_ok-with.ensures.next c.ok_or.ensures.value
