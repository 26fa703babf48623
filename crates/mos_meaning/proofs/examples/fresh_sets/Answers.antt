-- by computing
use Rattle.std.proofs.Common.{refl}
use Rattle.std.specs.Fmt.{digits}
use Rattle.mos_meaning.proofs.examples.fresh_sets.Goals as goal

pub returns : goal.returns
unfolding digits
returns c = record { means = refl; agrees = (refl, refl, refl, refl); spends = (refl, refl); shared = refl }
