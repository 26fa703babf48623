-- As the code goes about it: the run of a machine from its first instruction on.

use Rattle.std.specs.Prelude.{◌≡◌, ℕ, []}
use Rattle.bim_code.specs.declared.image.Image.{Image}
use Rattle.run_state.specs.Stops.{Course}
use Rattle.run_state.specs.State.{World, beginning}
use Rattle.run_state.specs.State as state
use Rattle.bim_machine.specs.Machine.{Machine, At}
use Rattle.bim_machine.specs.Courses.{Progress, run, most_steps, course_at}
use Rattle.bim_machine.specs.Laws.{IsOver}
use Rattle.mos_vm.specs.declared.runner.RunResult.{RunResult}
use Rattle.mos_vm.specs.declared.stop.Stop.{Stop as VmStop}
use Rattle.mos_vm.specs.Courses.{outcome_of, stop_of}
use Rattle.mos_vm.specs.Stepping.{MachineState}

-- a machine at an address
abbrev pub machine_at : ℕ → MachineState → Machine
machine_at address kept = At address kept.work kept.here kept.state

-- the machine behind so many steps from address 0
abbrev pub after_steps : Image → World → MachineState → ℕ → Progress
after_steps image w kept n = run image w n 0 (machine_at 0 kept)

-- it is over after as many steps as a course is given
abbrev pub IsOverInTime : Image → World → MachineState → Type 0
IsOverInTime image w kept = IsOver (after_steps image w kept (most_steps image w.budget)).machine

-- what is told of a run
abbrev pub course_of_run : RunResult → Course
course_of_run ran = record { outcome = outcome_of ran; steps = ran.steps }

-- it is all that the machine does
abbrev pub IsRunOf : Image → World → MachineState → RunResult → Type 0
IsRunOf image w kept ran = course_at (after_steps image w kept (most_steps image w.budget)) ≡ course_of_run ran

-- nothing was done before it stopped so
abbrev pub HasNoStep : VmStop → RunResult → Type 0
HasNoStep how ran =
    course_of_run ran ≡ record { outcome = state.outcome_of (stop_of how) (beginning []); steps = 0 }
