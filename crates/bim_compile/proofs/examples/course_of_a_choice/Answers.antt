-- by computing
use Rattle.std.proofs.Common.{refl}
use Rattle.bim_compile.proofs.examples.course_of_a_choice.Goals as goal

pub returns : goal.returns
returns c = refl
