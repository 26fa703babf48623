-- the machine stands where so many steps lead from the beginning, and fewer are left
use Rattle.std.proofs.Common.{◌≡◌, ◌-◌, []}
use Rattle.bim_machine.specs.Courses.{most_steps}
use Rattle.mos_vm.specs.ByAddress.{by_address}
use Rattle.mos_vm.specs.Stepping.{world}
use Rattle.mos_vm.specs.Running.{machine_at}
use Rattle.mos_vm.proofs.CourseLemmas.{IsBehind}
use Rattle.mos_vm.proofs.runner.go.Given as goal

abbrev pub invariant-loop-instruction : goal.invariant-loop-instruction
invariant-loop-instruction l = record {
  code : l.code.items ≡ by_address l.image.code;
  stands : IsBehind l.image (world [] l.budget) l.fn.machine l.steps (machine_at l.address l.machine);
}

abbrev pub decreases-loop-instruction : goal.decreases-loop-instruction
decreases-loop-instruction l = most_steps l.image l.budget - l.steps
