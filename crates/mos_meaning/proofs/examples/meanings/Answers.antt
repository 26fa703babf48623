-- by computing
use Rattle.std.proofs.Common.{refl}
use Rattle.std.specs.Fmt.{digits}
use Rattle.mos_meaning.proofs.examples.meanings.Goals as goal

pub returns : goal.returns
unfolding digits
returns c = record { hello = refl; spent = refl; refused = refl; sum = refl; overflow = refl; last_way = refl; parameter = (refl, refl, refl) }
