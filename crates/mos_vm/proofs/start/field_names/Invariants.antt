-- the names so far, with those of the fields still to come, are the whole
use Rattle.std.proofs.Common.{◌≡◌, ◌++◌, drop}
use Rattle.bim_machine.specs.Starts.{field_names}
use Rattle.std.specs.Prelude.{option_map}
use Rattle.mos_vm.proofs.start.field_names.Given as goal

abbrev pub invariant-loop-field : goal.invariant-loop-field
invariant-loop-field l =
    option_map (λ rest. l.names ++ rest) (field_names l.constants (drop l.field-index l.fields))
    ≡ field_names l.constants l.fields
