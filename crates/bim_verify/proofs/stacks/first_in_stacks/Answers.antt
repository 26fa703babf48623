use Rattle.std.proofs.Common.{◌<◌, List, length, subst}
use Rattle.bim_code.specs.declared.instruction.Instruction.{Instruction}
use Rattle.bim_code.specs.declared.instruction.Instruction.TheVariants.{Tick}
use Rattle.bim_verify.proofs.CodeSteps.{size_step, stack_step}
use Rattle.bim_verify.proofs.stacks.first_in_stacks.Goals as goal

pub loop-i-preserved : goal.loop-i-preserved
loop-i-preserved c =
    let code = c.args.image.now.code in
    let within : c.loop-i.i-index < length code = subst (λ (xs : List Instruction). c.loop-i.i-index < length xs) c.as_slice-i-items.ensures c.loop-i-test.true in
    record {
      counted = size_step code c.loop-i.i-index Tick _ _ _ within (rw c.as_slice-i-items.ensures at c.width-at.ensures) c.loop-i.invariant.counted;
      first = stack_step c.args.image.now code c.loop-i.i-index Tick _ _ _ _ _ _ _ within (rw c.as_slice-i-items.ensures at c.width-at.ensures)
          (rw c.as_slice-i-items.ensures at c.in_ok-line.ensures.found) (rw c.as_slice-i-items.ensures at c.in_ok-line.ensures.left) c.loop-i.invariant.first;
    }
