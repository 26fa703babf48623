-- the scalars so far, with those still to come, are all of them
use Rattle.std.proofs.Common.{◌≡◌, ◌++◌, drop, option_map}
use Rattle.vm_lib.specs.Operations.{scalars_in}
use Rattle.vm_values.proofs.arguments.scalars_of.Given as goal

abbrev pub invariant-loop-value : goal.invariant-loop-value
invariant-loop-value l = option_map (λ rest. l.scalars ++ rest) (scalars_in (drop l.value-index l.all)) ≡ scalars_in l.all
