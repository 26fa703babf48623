use Rattle.std.proofs.Common.{◌<◌, List, length, subst}
use Rattle.bim_code.specs.declared.instruction.Instruction.{Instruction}
use Rattle.bim_code.specs.declared.instruction.Instruction.TheVariants.{Tick}
use Rattle.bim_rules.proofs.CodeSteps.{size_step, breach_step}
use Rattle.bim_rules.proofs.code.first_in_code.Goals as goal

pub loop-i-preserved : goal.loop-i-preserved
loop-i-preserved c =
    let code = c.args.image.now.code in
    let within : c.loop-i.i-index < length code = subst (λ (xs : List Instruction). c.loop-i.i-index < length xs) c.as_slice-i-items.ensures c.loop-i-test.true in
    record {
      counted = size_step code c.loop-i.i-index Tick _ _ _ within (rw c.as_slice-i-items.ensures at c.width-at.ensures) c.loop-i.invariant.counted;
      first = breach_step c.args.image.now code c.loop-i.i-index Tick _ _ _ _ _ within (rw c.as_slice-i-items.ensures at c.width-at.ensures)
          (rw c.as_slice-i-items.ensures at c.first_at-found.ensures) c.loop-i.invariant.first;
    }
