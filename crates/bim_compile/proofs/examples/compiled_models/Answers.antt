-- by computing
use Rattle.std.proofs.Common.{refl}
use Rattle.bim_compile.proofs.examples.compiled_models.Goals as goal

pub returns : goal.returns
returns c = record { hello = refl; down = refl; last_way = refl; until_two = refl }
