use Rattle.std.proofs.Common.{◌≡◌, [], length}
use Rattle.mos_form.specs.Lists as spec
use Rattle.mos_form.proofs.lists.read_labels.Given as goal

abbrev pub invariant-loop-rest : goal.invariant-loop-rest
invariant-loop-rest l = spec.read_labels l.found l.rest ≡ spec.read_labels [] l.words

abbrev pub decreases-loop-rest : goal.decreases-loop-rest
decreases-loop-rest l = length l.rest
