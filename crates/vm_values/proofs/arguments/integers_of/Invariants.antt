-- the integers so far, with those still to come, are all of them
use Rattle.std.proofs.Common.{◌≡◌, ◌++◌, drop, option_map}
use Rattle.vm_lib.specs.Library.{integers_in}
use Rattle.vm_values.proofs.arguments.integers_of.Given as goal

abbrev pub invariant-loop-value : goal.invariant-loop-value
invariant-loop-value l = option_map (λ rest. l.integers ++ rest) (integers_in (drop l.value-index l.all)) ≡ integers_in l.all
