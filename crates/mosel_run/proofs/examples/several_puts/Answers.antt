-- by computing
use Rattle.std.proofs.Common.{refl}
use Rattle.mosel_run.proofs.examples.several_puts.Goals as goal

pub returns : goal.returns
returns c = refl
