-- by computing
use Rattle.std.proofs.Common.{refl}
use Rattle.std.specs.Fmt.{digits}
use Rattle.mos_meaning.proofs.examples.meanings_of_loops.Goals as goal

pub returns : goal.returns
unfolding digits
returns c = record { down = refl; spent = refl; enough = refl; endless = refl; until_two = refl }
