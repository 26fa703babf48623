-- the comparison that the operator is
use Rattle.std.proofs.Common.{refl, ap}
use Rattle.mos_value.specs.Answers.{compare}
use Rattle.mos_value.specs.Answers as comparison
use Rattle.mos_meaning.specs.Sources.{operator_of}
use Rattle.bim_compile.proofs.expressions.instruction_of.Goals as goal

pub returns-in-Equal : goal.returns-in-Equal
returns-in-Equal c = (compare comparison.equal, ap operator_of c.in-Equal.is, refl)

pub returns-in-NotEqual : goal.returns-in-NotEqual
returns-in-NotEqual c = (compare comparison.not_equal, ap operator_of c.in-NotEqual.is, refl)

pub returns-in-Less : goal.returns-in-Less
returns-in-Less c = (compare comparison.less, ap operator_of c.in-Less.is, refl)

pub returns-in-AtMost : goal.returns-in-AtMost
returns-in-AtMost c = (compare comparison.at_most, ap operator_of c.in-AtMost.is, refl)

pub returns-in-Greater : goal.returns-in-Greater
returns-in-Greater c = (compare comparison.greater, ap operator_of c.in-Greater.is, refl)

pub returns-in-AtLeast : goal.returns-in-AtLeast
returns-in-AtLeast c = (compare comparison.at_least, ap operator_of c.in-AtLeast.is, refl)
