-- What the machine of an image does, step by step, and what is told of its whole course.

use Rattle.std.specs.Prelude.{ℕ, ◌+◌, ◌*◌, zero, suc, List, [], Option, Some, None, length, unwrap_or}
use Rattle.job_calls.specs.declared.reply.Reply.{Reply}
use Rattle.bim_code.specs.declared.image.Image.{Image}
use Rattle.bim_code.specs.declared.instruction.Instruction.{Instruction}
use Rattle.bim_code.specs.Rows.{width, named_address}
use Rattle.bim_code.specs.Code.{instruction_at}
use Rattle.mos_value.specs.Values.{Value}
use Rattle.run_state.specs.Stops.{Stuck, Outcome, Course}
use Rattle.run_state.specs.State.{World, State, beginning, outcome_of, final_outcome, globals_at}
use Rattle.run_state.specs.Parameters.{refused_run}
use Rattle.bim_machine.specs.Starts.{Beginning, Refused, Broken, Begins, beginning_of}
use Rattle.bim_machine.specs.Machine.{Work, Here, Machine, At, Halted, Site, idle, settle}
use Rattle.bim_machine.specs.Instructions.{act}

-- the addresses of an instruction that stands here; one that names none names the one behind it
abbrev pub site_of : Instruction → ℕ → Site
site_of i address = record {
  at = address;
  next = address + width i;
  named = unwrap_or (named_address i) (address + width i);
}

-- the instruction that was found is carried out
abbrev pub step_by : Image → World → Option Instruction → ℕ → Work → Here → State → Machine
step_by image w None address work here s = Halted Stuck address s
step_by image w (Some i) address work here s =
    settle image w (act image i here.slots work s.memory.store) (site_of i address) here s

-- one step: an instruction is begun
abbrev pub step : Image → World → ℕ → Work → Here → State → Machine
step image w address work here s = step_by image w (instruction_at image.code address) address work here s

-- a machine, and the steps that were taken before
pub record Progress : Type 0 where
  pub steps : ℕ
  pub machine : Machine

-- at most so many steps more
abbrev pub run : Image → World → ℕ → ℕ → Machine → Progress
run image w zero steps m = record { steps = steps; machine = m }
run image w (suc n) steps (Halted stop address s) = record { steps = steps; machine = Halted stop address s }
run image w (suc n) steps (At address work here s) = run image w n (steps + 1) (step image w address work here s)

-- the main part, which nobody called
abbrev pub main : Here
main = record { slots = []; back = 0; callers = [] }

-- the machine that begins with these values in the global slots
abbrev pub start : List Value → Machine
start values = At 0 idle main (beginning values)

-- no course takes more steps than that for so many ticks, where loops take ticks
abbrev pub most_steps : Image → ℕ → ℕ
most_steps image ticks = length image.code * (2 * ticks + 2)

-- what is told of the machine; one that did not stop has no outcome
abbrev pub outcome_at : Machine → Outcome
outcome_at (Halted stop address s) = outcome_of stop s
outcome_at (At address work here s) = outcome_of Stuck s

-- what is told of the machine, with its steps
abbrev pub course_at : Progress → Course
course_at p = record { outcome = outcome_at p.machine; steps = p.steps }

-- the course from a beginning
abbrev pub course_from : Image → World → Beginning → Course
course_from image w Refused = record { outcome = final_outcome refused_run; steps = 0 }
course_from image w Broken = record { outcome = outcome_of Stuck (beginning []); steps = 0 }
course_from image w (Begins values) = course_at (run image w (most_steps image w.budget) 0 (start values))

-- what an image does, given a parameter text, replies and a budget. It is meant for images whose loops take
-- ticks: these are over by then, and the course of another image may be cut there
abbrev pub course_of : Image → List ℕ → List Reply → ℕ → Course
course_of image text replies budget = course_from image (record { replies = replies; budget = budget }) (beginning_of image text)

-- Globals.

-- the values of the globals of a machine that is out of ticks, in the order of their slots; behind another end
-- there are none
abbrev pub machine_globals : Machine → List Value
machine_globals (Halted stop address s) = globals_at stop s
machine_globals (At address work here s) = []

-- of the course from a beginning
abbrev pub globals_from : Image → World → Beginning → List Value
globals_from image w Refused = []
globals_from image w Broken = []
globals_from image w (Begins values) = machine_globals (run image w (most_steps image w.budget) 0 (start values)).machine

-- of the course of an image
abbrev pub globals_of : Image → List ℕ → List Reply → ℕ → List Value
globals_of image text replies budget = globals_from image (record { replies = replies; budget = budget }) (beginning_of image text)
