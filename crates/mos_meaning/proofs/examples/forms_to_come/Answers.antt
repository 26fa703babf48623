-- by computing
use Rattle.std.proofs.Common.{refl}
use Rattle.std.specs.Fmt.{digits}
use Rattle.mos_meaning.proofs.examples.forms_to_come.Goals as goal

pub returns : goal.returns
unfolding digits
returns c = record { means = refl; agrees = (refl, refl, refl, refl); too_deep = refl; too_deep_agrees = refl; early_is_stuck = refl; other_kinds_are_lost = refl; other_arguments_are_lost = refl }
