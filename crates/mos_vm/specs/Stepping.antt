-- As the code goes about it: what the program keeps of a machine, but for the address of its
-- instruction, and where one instruction leads it.

use Rattle.std.specs.Prelude.{◌≡◌, ℕ, List}
use Rattle.bim_code.specs.declared.image.Image.{Image}
use Rattle.bim_code.specs.declared.instruction.Instruction.{Instruction}
use Rattle.job_calls.specs.declared.reply.Reply.{Reply}
use Rattle.mos_value.specs.Values.{Value}
use Rattle.run_state.specs.State.{World, State, beginning}
use Rattle.run_state.specs.State as state
use Rattle.bim_machine.specs.Machine.{Machine, At, Halted, Work, Here, Site, Act, idle, settle}
use Rattle.bim_machine.specs.Instructions.{act}
use Rattle.bim_machine.specs.Courses.{main}
use Rattle.mos_vm.specs.declared.stop.Stop.{Stop as VmStop}
use Rattle.mos_vm.specs.declared.stop.Control.{Control}
use Rattle.mos_vm.specs.declared.stop.Control.TheVariants.{Goes, Jumps, Halts}
use Rattle.mos_vm.specs.declared.runner.RunResult.{RunResult}
use Rattle.mos_vm.specs.Courses.{stop_of, outcome_of}

-- what is at hand, what stays while the part runs, and the state of the run
pub record MachineState : Type 0 where
  pub work : Work
  pub here : Here
  pub state : State

-- these replies, and so many ticks
abbrev pub world : List Reply → ℕ → World
world replies budget = record { replies = replies; budget = budget }

-- a machine that begins with these values in its global slots
abbrev pub machine_with : List Value → MachineState
machine_with values = record { work = idle; here = main; state = beginning values }

-- the machine behind an instruction, or where that names, or over
abbrev pub machine_after : Site → Control → MachineState → Machine
machine_after site Goes kept = At site.next kept.work kept.here kept.state
machine_after site Jumps kept = At site.named kept.work kept.here kept.state
machine_after site (Halts how) kept = Halted (stop_of how) site.at kept.state

-- what is asked for leads there, of whatever image, wherever it stands, and whatever the replies are: nothing
-- asks for one yet
abbrev pub Settles : ℕ → Act → MachineState → Control → MachineState → Type 0
Settles budget asked before control after = (image : Image) (replies : List Reply) (site : Site)
    → settle image (world replies budget) asked site before.here before.state ≡ machine_after site control after

-- the instruction leads from the one to the other
abbrev pub IsStep : Image → ℕ → Instruction → MachineState → Control → MachineState → Type 0
IsStep image budget i before control after = (replies : List Reply) (site : Site)
    → settle image (world replies budget)
    (act image i before.here.slots before.work before.state.memory.store) site before.here before.state
    ≡ machine_after site control after

-- the result of a machine that stopped so, after so many steps
abbrev pub IsResultOf : MachineState → VmStop → ℕ → RunResult → Type 0
IsResultOf kept how steps ran =
    (outcome_of ran ≡ state.outcome_of (stop_of how) kept.state) × (ran.steps ≡ steps)
