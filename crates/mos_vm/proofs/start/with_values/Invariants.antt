-- the parameters still to come, put over the values so far, are the whole
use Rattle.std.proofs.Common.{◌≡◌, drop}
use Rattle.run_state.specs.Parameters.{with_values}
use Rattle.mos_vm.specs.Beginnings.{slots_of}
use Rattle.mos_vm.proofs.start.with_values.Given as goal

abbrev pub invariant-loop-place : goal.invariant-loop-place
invariant-loop-place l = with_values (slots_of (drop l.place l.params)) (drop l.place l.given) l.values ≡ with_values (slots_of l.params) l.given l.fn.values
