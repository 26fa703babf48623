-- the parameters so far, with those still to come, are the whole
use Rattle.std.proofs.Common.{◌≡◌, ◌++◌, drop}
use Rattle.std.specs.Prelude.{option_map}
use Rattle.bim_machine.specs.Starts.{all_of, parameter_in}
use Rattle.mos_vm.proofs.parameters.parameters.Given as goal

abbrev pub invariant-loop-param : goal.invariant-loop-param
invariant-loop-param l =
    option_map (λ rest. l.all ++ rest) (all_of (parameter_in l.constants) (drop l.param-index l.params))
    ≡ all_of (parameter_in l.constants) l.params
