use Rattle.mos_typing.specs.Shapes.{array_of}
use Rattle.mos_typing.proofs.Typed.{says_plain, says_as}
use Rattle.mos_typing.proofs.types.static_type.Goals as goal

pub returns-in-Some : goal.returns-in-Some
returns-in-Some c = λ n. says_as c.args.words.now (array_of c.in-Some.indexes.now c.in-Some.cell.now) c.array_type.result c.in-Some.ensures c.array_type.ensures

pub returns-in-None : goal.returns-in-None
returns-in-None c = λ n. says_plain c.args.words.now c.plain_type.result n c.in-None.ensures c.plain_type.ensures
