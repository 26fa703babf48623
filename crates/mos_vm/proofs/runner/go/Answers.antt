-- each pass is one step of the machine, and the last is the end of its course
use Rattle.std.proofs.Common.{◌≡◌, ◌<◌, ◌+◌, [], ap, sym, ◌∙◌, None, Some, arith}
use Rattle.bim_code.specs.Code.{instruction_at}
use Rattle.bim_machine.specs.Courses.{most_steps}
use Rattle.mos_vm.specs.declared.stop.Stop.TheVariants as stop_kind
use Rattle.mos_vm.specs.declared.stop.Control.TheVariants.{Goes, Jumps, Halts}
use Rattle.mos_vm.specs.ByAddress.{target}
use Rattle.mos_vm.specs.Stepping.{world}
use Rattle.mos_vm.specs.Running.{machine_at}
use Rattle.mos_vm.proofs.CourseLemmas.{still_few, steps_fit, found_there, leads_on, stuck_on, is_run}
use Rattle.mos_vm.proofs.AddressLemmas.{at_within}
use Rattle.mos_vm.proofs.runner.go.Goals as goal
use Rattle.mos_vm.proofs.runner.go.Goals.{in-Goes, in-Jumps}

pub overflow_add-begun : goal.overflow_add-begun
overflow_add-begun c =
    let image = c.args.image.now in
    let w = world [] c.args.budget in
    let now = c.loop-instruction in
    let few = still_few image w c.args.machine now.steps now.address now.machine
    c.machine_laws.ensures.stays_over c.requires.over now.invariant.stands in
    let fit = steps_fit image c.args.budget c.requires.small c.ranges.budget.fits in
    omega (arith, few, fit)

pub loop-instruction-smaller : goal.loop-instruction-smaller
loop-instruction-smaller c =
    let w = world [] c.args.budget in
    let now = c.loop-instruction in
    let few : now.steps < most_steps c.args.image.now c.args.budget =
    still_few c.args.image.now w c.args.machine now.steps now.address now.machine
    c.machine_laws.ensures.stays_over c.requires.over now.invariant.stands in
    omega (arith, few)

pub overflow_add-next : goal.overflow_add-next
overflow_add-next c =
    let image = c.args.image.now in
    let now = c.loop-instruction in
    let found : instruction_at image.code now.address ≡ Some c.in-Some.instruction =
    found_there image _ now.address (Some c.in-Some.instruction) (c.deref.ensures.value ∙ now.invariant.code)
    (sym c.found_at.ensures ∙ c.in-Some.is) in
    let within = at_within image.code now.address c.in-Some.instruction found in
    omega (arith, within, c.requires.small, c.width.ensures)

pub returns-in_default : goal.returns-in_default
returns-in_default c =
    let laws = c.machine_laws.ensures in
    let image = c.args.image.now in
    let w = world [] c.args.budget in
    let now = c.loop-instruction in
    let none = found_there image _ now.address None (c.deref.ensures.value ∙ now.invariant.code) (sym c.found_at.ensures ∙ c.in_default.is) in
    let few = still_few image w c.args.machine now.steps now.address now.machine laws.stays_over c.requires.over now.invariant.stands in
    let over = stuck_on image w c.args.machine now.steps now.address now.machine laws.step_by_step now.invariant.stands none in
    is_run image w c.args.machine now.steps now.address stop_kind.Stuck now.machine c.ended.result laws.stays_over few over c.ended.ensures

pub returns-in-Halts : goal.returns-in-Halts
returns-in-Halts c =
    let laws = c.machine_laws.ensures in
    let image = c.args.image.now in
    let w = world [] c.args.budget in
    let now = c.loop-instruction in
    let i = c.in-Some.instruction in
    let how = c.in-Halts.stop in
    let next = c.step.new.self in
    let found : instruction_at image.code now.address ≡ Some i =
    found_there image _ now.address (Some i) (c.deref.ensures.value ∙ now.invariant.code) (sym c.found_at.ensures ∙ c.in-Some.is) in
    let few = still_few image w c.args.machine now.steps now.address now.machine laws.stays_over c.requires.over now.invariant.stands in
    let over = leads_on image w c.args.machine now.steps now.address now.machine i (Halts how) next
    laws.step_by_step now.invariant.stands found (rw c.in-Halts.is at c.in_ok-step.ensures) in
    is_run image w c.args.machine now.steps now.address how next c.ended-in-Halts.result laws.stays_over few over
    c.ended-in-Halts.ensures

pub loop-instruction-preserved : goal.loop-instruction-preserved
loop-instruction-preserved c =
    let laws = c.machine_laws.ensures in
    let image = c.args.image.now in
    let w = world [] c.args.budget in
    let now = c.loop-instruction in
    let i = c.in-Some.instruction in
    let next = c.step.new.self in
    let found : instruction_at image.code now.address ≡ Some i =
    found_there image _ now.address (Some i) (c.deref.ensures.value ∙ now.invariant.code) (sym c.found_at.ensures ∙ c.in-Some.is) in
    record {
      code = now.invariant.code;
      stands = elim c.match-branch-3.branch [
        | in-Goes b ↦
            leads_on image w c.args.machine now.steps now.address now.machine i Goes next
            laws.step_by_step now.invariant.stands found (rw b.in-Goes.is at c.in_ok-step.ensures)
            ∙ ap (λ address. record { steps = now.steps + 1; machine = machine_at address next })
            (ap (λ wide. now.address + wide) (sym c.width.ensures) ∙ sym b.address-is)
        | in-Jumps b ↦
            leads_on image w c.args.machine now.steps now.address now.machine i Jumps next
            laws.step_by_step now.invariant.stands found (rw b.in-Jumps.is at c.in_ok-step.ensures)
            ∙ ap (λ address. record { steps = now.steps + 1; machine = machine_at address next })
            (ap (λ wide. target i (now.address + wide)) (sym c.width.ensures) ∙ sym b.target-address.ensures ∙ sym b.address-is)
      ];
    }
