-- the values so far, with those of the fields still to come, are the whole
use Rattle.std.proofs.Common.{◌≡◌, ◌++◌, drop}
use Rattle.bim_machine.specs.Starts.{field_defaults}
use Rattle.std.specs.Prelude.{option_map}
use Rattle.mos_vm.proofs.start.field_defaults.Given as goal

abbrev pub invariant-loop-field : goal.invariant-loop-field
invariant-loop-field l =
    option_map (λ rest. l.values ++ rest) (field_defaults l.types (drop l.field-index l.fields))
    ≡ field_defaults l.types l.fields
