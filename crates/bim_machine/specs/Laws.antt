-- Laws of the machine, of every image: what more replies and a greater budget change, how many steps it
-- takes, what grows, and when it asks.

use Rattle.std.specs.Prelude.{◌≡◌, ◌≤◌, ◌<◌, ℕ, ◌+◌, List, ◌++◌, length}
use Rattle.job_calls.specs.declared.call.Call.{Call}
use Rattle.job_calls.specs.declared.reply.Reply.{Reply}
use Rattle.bim_code.specs.declared.image.Image.{Image}
use Rattle.bim_code.specs.Rules.{KeepsTicks}
use Rattle.mos_value.specs.Values.{Value}
use Rattle.run_state.specs.Stops.{Stop, Exited, Failed, Spent, Stopped, Asking, Stuck, Lost}
use Rattle.run_state.specs.State.{World, State}
use Rattle.bim_machine.specs.Machine.{Machine, At, Halted, Work, Here}
use Rattle.bim_machine.specs.Courses.{run, step, start, most_steps, course_of}

-- More of the world.

-- more replies, and a greater budget
abbrev pub more : World → List Reply → ℕ → World
more w replies extra = record { replies = w.replies ++ replies; budget = w.budget + extra }

-- it has not come to the end of its replies, nor of its budget
abbrev pub HasMore : Machine → Type 0
HasMore (At address work here s) = Unit {0}
HasMore (Halted (Asking call) address s) = ⊥
HasMore (Halted Spent address s) = ⊥
HasMore (Halted (Exited code) address s) = Unit {0}
HasMore (Halted (Failed kind) address s) = Unit {0}
HasMore (Halted Stopped address s) = Unit {0}
HasMore (Halted Stuck address s) = Unit {0}
HasMore (Halted Lost address s) = Unit {0}

-- they change nothing before they are reached
abbrev pub MoreChangesNothing : Type 0
MoreChangesNothing = (image : Image) (w : World) (replies : List Reply) (extra n steps : ℕ) (m : Machine)
    → HasMore (run image w n steps m).machine → run image (more w replies extra) n steps m ≡ run image w n steps m

-- Steps.

-- the machine is over
pub record IsOver (m : Machine) : Type 0 where
  pub stop : Stop
  pub address : ℕ
  pub state : State
  pub by : m ≡ Halted stop address state

-- where each loop takes ticks, it is over after the most steps that its course is given
abbrev pub OverInTime : Type 0
OverInTime = (image : Image) (w : World) (values : List Value) → KeepsTicks image
    → IsOver (run image w (most_steps image w.budget) 0 (start values)).machine

-- the state of a machine
abbrev pub state_in : Machine → State
state_in (At address work here s) = s
state_in (Halted stop address s) = s

-- it has taken few steps for the ticks that it took, whenever it is looked at
abbrev pub FewSteps : Type 0
FewSteps = (image : Image) (w : World) (values : List Value) (n : ℕ) → KeepsTicks image
    → (run image w n 0 (start values)).steps ≤ most_steps image (state_in (run image w n 0 (start values)).machine).counts.ticks

-- and so has its course
abbrev pub FewStepsOfCourse : Type 0
FewStepsOfCourse = (image : Image) (text : List ℕ) (replies : List Reply) (budget : ℕ) → KeepsTicks image
    → (course_of image text replies budget).steps ≤ most_steps image (course_of image text replies budget).outcome.ticks

-- a course takes no more ticks than its budget
abbrev pub TicksWithin : Type 0
TicksWithin = (image : Image) (text : List ℕ) (replies : List Reply) (budget : ℕ) → (course_of image text replies budget).outcome.ticks ≤ budget

-- one step more is one more that is taken
abbrev pub StepByStep : Type 0
StepByStep = (image : Image) (w : World) (n steps address : ℕ) (work : Work) (here : Here) (s : State) (m : Machine)
    → (run image w n steps m).machine ≡ At address work here s
    → run image w (n + 1) steps m ≡ record { steps = steps + n + 1; machine = step image w address work here s }

-- what is over stays so, and takes no step
abbrev pub StaysOver : Type 0
StaysOver = (image : Image) (w : World) (n many steps : ℕ) (m : Machine)
    → IsOver (run image w n steps m).machine → n ≤ many → run image w many steps m ≡ run image w n steps m

-- a machine that came to an end stood at the instruction where it ended, one step before
pub record StoodBefore (image : Image) (w : World) (n steps : ℕ) (m : Machine) (stop : Stop) (at : ℕ) (s : State) : Type 0 where
  pub taken : ℕ
  pub address : ℕ
  pub work : Work
  pub here : Here
  pub state : State
  pub few : taken < n
  pub before : run image w taken steps m ≡ record { steps = steps + taken; machine = At address work here state }
  pub last : step image w address work here state ≡ Halted stop at s

-- so with one reply more, or with more ticks, it goes on from there
abbrev pub LastStep : Type 0
LastStep = (image : Image) (w : World) (n steps address : ℕ) (work : Work) (here : Here) (s : State) (stop : Stop) (at : ℕ) (t : State)
    → (run image w n steps (At address work here s)).machine ≡ Halted stop at t → StoodBefore image w n steps (At address work here s) stop at t

-- What grows.

-- one list begins another
pub record IsPrefix {A : Type 0} (first all : List A) : Type 0 where
  pub rest : List A
  pub is : all ≡ first ++ rest

-- what was written and what was answered before begins what is so behind
pub record Grows (before behind : State) : Type 0 where
  pub output : IsPrefix before.memory.output behind.memory.output
  pub calls : IsPrefix before.counts.calls behind.counts.calls
  pub ticks : before.counts.ticks ≤ behind.counts.ticks

-- whatever the machine does
abbrev pub AllGrows : Type 0
AllGrows = (image : Image) (w : World) (n steps : ℕ) (m : Machine) → Grows (state_in m) (state_in (run image w n steps m).machine)

-- Asking.

-- no more calls of a course are answered than there are replies
abbrev pub CallsWithin : Type 0
CallsWithin = (image : Image) (text : List ℕ) (replies : List Reply) (budget : ℕ) → length (course_of image text replies budget).outcome.calls ≤ length replies

-- a course that asks has had a call answered by each of its replies
abbrev pub AsksLast : Type 0
AsksLast = (image : Image) (text : List ℕ) (replies : List Reply) (budget : ℕ) (call : Call)
    → (course_of image text replies budget).outcome.stop ≡ Asking call → length (course_of image text replies budget).outcome.calls ≡ length replies
