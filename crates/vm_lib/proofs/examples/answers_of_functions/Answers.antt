-- by computing
use Rattle.std.proofs.Common.{refl}
use Rattle.std.specs.Fmt.{digits}
use Rattle.vm_lib.proofs.examples.answers_of_functions.Goals as goal

pub returns-clause-on_printed_forms : goal.returns-clause-on_printed_forms
unfolding digits
returns-clause-on_printed_forms c = refl
