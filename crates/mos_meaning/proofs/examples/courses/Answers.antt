-- by computing
use Rattle.std.proofs.Common.{refl}
use Rattle.std.specs.Fmt.{digits}
use Rattle.mos_meaning.proofs.examples.courses.Goals as goal

pub returns : goal.returns
unfolding digits
returns c = record { hello = refl; spent = refl; parameter = (refl, refl, refl); meaningless = (refl, refl, refl) }
