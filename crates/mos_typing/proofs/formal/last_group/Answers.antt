use Rattle.mos_typing.proofs.Grouped.{says_no_colon, says_only}
use Rattle.mos_typing.proofs.formal.last_group.Goals as goal

pub returns-in-None : goal.returns-in-None
returns-in-None c = says_no_colon c.args.words.now c.in-None.ensures.value

pub returns-in-Some : goal.returns-in-Some
returns-in-Some c = says_only c.args.words.now c.in-Some.names.now c.in-Some.typ.now c.group.result c.in-Some.ensures.value c.group.ensures
