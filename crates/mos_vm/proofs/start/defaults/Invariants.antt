-- the values so far, with those of the types still to come, are the whole
use Rattle.std.proofs.Common.{◌≡◌, ◌++◌, drop}
use Rattle.bim_machine.specs.Starts.{defaults_in}
use Rattle.std.specs.Prelude.{option_map}
use Rattle.mos_vm.proofs.start.defaults.Given as goal

abbrev pub invariant-loop-number : goal.invariant-loop-number
invariant-loop-number l =
    option_map (λ rest. l.values ++ rest) (defaults_in l.constants l.types (drop l.number-index l.numbers))
    ≡ defaults_in l.constants l.types l.numbers
