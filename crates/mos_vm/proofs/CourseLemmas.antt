-- The course of an image, step by step.

use Rattle.std.proofs.Common.{◌≡◌, ◌≤◌, ◌<◌, ◌^◌, ◌*◌, ℕ, ◌+◌, List, [], length, Option, Some, None, refl, sym, ap, ◌∙◌, subst, mul-le-mul_right, true, false, arith}
use Rattle.std.proofs.lemmas.Bool.Decides.{nat_tests}
use Rattle.std.specs.Prelude.{nat_le}
use Rattle.bim_code.specs.declared.image.Image.{Image}
use Rattle.bim_code.specs.declared.instruction.Instruction.{Instruction}
use Rattle.bim_code.specs.Code.{instruction_at, code_size}
use Rattle.run_state.specs.Stops.{Stuck, Course, Outcome}
use Rattle.mos_value.specs.Values.{Value}
use Rattle.bim_machine.specs.Starts.{Begins, beginning_of}
use Rattle.bim_machine.specs.Machine.{Machine, Halted}
use Rattle.run_state.specs.State.{World}
use Rattle.bim_machine.specs.Courses.{Progress, site_of, step_by, step, most_steps, course_at, course_from}
use Rattle.bim_machine.specs.Laws.{IsOver, StepByStep, StaysOver, TicksWithin}
use Rattle.mos_vm.specs.declared.stop.Stop.{Stop as VmStop}
use Rattle.mos_vm.specs.declared.stop.Control.{Control}
use Rattle.mos_vm.specs.declared.runner.RunResult.{RunResult}
use Rattle.mos_vm.specs.Courses.{stop_of, IsCourse}
use Rattle.mos_vm.specs.ByAddress.{by_address, found_at}
use Rattle.mos_vm.specs.Stepping.{MachineState, machine_with, world, machine_after, IsStep, IsResultOf}
use Rattle.mos_vm.specs.Running.{machine_at, after_steps, IsOverInTime, IsRunOf}
use Rattle.mos_vm.proofs.AddressLemmas.{begun_is, length_within}

-- after so many steps the machine is this one
abbrev pub IsBehind : Image → World → MachineState → ℕ → Machine → Type 0
IsBehind image w kept n machine = after_steps image w kept n ≡ record { steps = n; machine = machine }

-- a machine that stands after some steps has more steps before it
pub still_few : (image : Image) (w : World) (kept : MachineState) (n address : ℕ) (now : MachineState) → StaysOver → IsOverInTime image w kept
    → IsBehind image w kept n (machine_at address now) → n < most_steps image w.budget
still_few image w kept n address now stays over stands = tested (nat_le (most_steps image w.budget) n) refl
  where
    tested : (b : _) → nat_le (most_steps image w.budget) n ≡ b → n < most_steps image w.budget
    tested true e =
        let most : most_steps image w.budget ≤ n = grind (arith, nat_tests, e) in
        let same = stays image w (most_steps image w.budget) n 0 (machine_at 0 kept) over most in
        let both : machine_at address now ≡ Halted over.stop over.address over.state =
        ap (λ (p : Progress). p.machine) (sym stands ∙ same) ∙ over.by in
        cc
    tested false e = grind (arith, nat_tests, e)

-- the number of steps fits 64 bits
pub steps_fit : (image : Image) (budget : ℕ) → code_size image.code < 2 ^ 30 → budget < 2 ^ 32 → most_steps image budget < 2 ^ 63 + 2 ^ 62
steps_fit image budget small few =
    let long : length image.code ≤ 2 ^ 30 = omega (arith, small, length_within image.code) in
    let wide : 2 * budget + 2 ≤ 2 ^ 33 = omega (arith, few) in
    let one : length image.code * (2 * budget + 2) ≤ 2 ^ 30 * (2 * budget + 2) = mul-le-mul_right (2 * budget + 2) long in
    omega (arith, one, wide)

-- the instruction that begins at an address
pub found_there : (image : Image) (bytes : List (Option Instruction)) (address : ℕ) (found : Option Instruction)
    → bytes ≡ by_address image.code → found_at bytes address ≡ found → instruction_at image.code address ≡ found
found_there image bytes address found is e = sym (begun_is image.code address) ∙ ap (λ all. found_at all address) (sym is) ∙ e

-- one step more
one_step : (image : Image) (w : World) (kept : MachineState) (n address : ℕ) (old : MachineState) (found : Option Instruction) → StepByStep
    → IsBehind image w kept n (machine_at address old) → instruction_at image.code address ≡ found
    → IsBehind image w kept (n + 1) (step_by image w found address old.work old.here old.state)
one_step image w kept n address old found by_step stands is =
    let steps : 0 + n + 1 ≡ n + 1 = omega arith in
    by_step image w n 0 address old.work old.here old.state (machine_at 0 kept) (ap (λ (p : Progress). p.machine) stands)
    ∙ ap (λ k. record { steps = k; machine = step image w address old.work old.here old.state }) steps
    ∙ ap (λ there. record { steps = n + 1; machine = step_by image w there address old.work old.here old.state }) is

-- one instruction leads on
pub leads_on : (image : Image) (w : World) (kept : MachineState) (n address : ℕ) (old : MachineState) (i : Instruction) (flow : Control) (new : MachineState) → StepByStep
    → IsBehind image w kept n (machine_at address old) → instruction_at image.code address ≡ Some i → IsStep image w.budget i old flow new
    → IsBehind image w kept (n + 1) (machine_after (site_of i address) flow new)
leads_on image w kept n address old i flow new by_step stands found leads =
    one_step image w kept n address old (Some i) by_step stands found
    ∙ ap (λ (m : Machine). record { steps = n + 1; machine = m }) (leads w.replies (site_of i address))

-- where nothing begins the machine is stuck
pub stuck_on : (image : Image) (w : World) (kept : MachineState) (n address : ℕ) (old : MachineState) → StepByStep
    → IsBehind image w kept n (machine_at address old) → instruction_at image.code address ≡ None
    → IsBehind image w kept (n + 1) (Halted Stuck address old.state)
stuck_on image w kept n address old by_step stands none = one_step image w kept n address old None by_step stands none

course_eq : (o o' : Outcome) (n n' : ℕ) → o ≡ o' → n ≡ n' → (let c : Course = record { outcome = o; steps = n } in c) ≡ record { outcome = o'; steps = n' }
course_eq o o' n n' p q = ap (λ x. record { outcome = x; steps = n }) p ∙ ap (λ m. record { outcome = o'; steps = m }) q

-- a machine that stops after one step more has its whole course behind it
pub is_run : (image : Image) (w : World) (kept : MachineState) (n address : ℕ) (how : VmStop) (new : MachineState) (ran : RunResult) → StaysOver
    → n < most_steps image w.budget → IsBehind image w kept (n + 1) (Halted (stop_of how) address new.state) → IsResultOf new how (n + 1) ran
    → IsRunOf image w kept ran
is_run image w kept n address how new ran stays few over told_is =
    let is_over : IsOver (after_steps image w kept (n + 1)).machine =
    record { stop = stop_of how; address = address; state = new.state; by = ap (λ (p : Progress). p.machine) over } in
    ap course_at (stays image w (n + 1) (most_steps image w.budget) 0 (machine_at 0 kept) is_over (omega (arith, few)) ∙ over)
    ∙ course_eq _ _ _ _ (sym told_is.0) (sym told_is.1)

-- a run from the beginning is the course of the image
pub course_by : (image : Image) (params : List ℕ) (budget : ℕ) (values : List Value) (ran : RunResult) → beginning_of image params ≡ Begins values
    → IsRunOf image (world [] budget) (machine_with values) ran → IsCourse image params budget ran
course_by image params budget values ran begins is = ap (course_from image (world [] budget)) begins ∙ is

-- whose ticks are within its budget
pub ticks_of : (image : Image) (params : List ℕ) (budget : ℕ) (ran : RunResult) → TicksWithin → IsCourse image params budget ran → ran.ticks ≤ budget
ticks_of image params budget ran within is = subst (λ (course : Course). course.outcome.ticks ≤ budget) is (within image params [] budget)
