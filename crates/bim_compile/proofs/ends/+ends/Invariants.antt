-- the end of what is still to come is the end of all, and all is small if that is
use Rattle.std.proofs.Common.{◌≡◌, ◌≤◌, ◌+◌, ◌*◌, drop}
use Rattle.mos_meaning.specs.Sources.{block_of, arms_of}
use Rattle.bim_compile.specs.Built.{AreBuiltArms, IsBuiltBlock}
use Rattle.bim_compile.specs.Compiled.{arms_end, block_end}
use Rattle.bim_compile.specs.InSize.{AreSmallArms, IsSmallBlock}
use Rattle.bim_compile.specs.Sizes.{size_of_arms, size_of_block}
use Rattle.bim_compile.proofs.ends.+ends.Given as goal

abbrev pub invariant-end_of_statement-loop-arm : goal.invariant-end_of_statement-loop-arm
invariant-end_of_statement-loop-arm l = record {
  built : AreBuiltArms (arms_of (drop l.arm-index l.arm-items) l.otherwise);
  end : arms_end l.end (arms_of (drop l.arm-index l.arm-items) l.otherwise) ≡ arms_end (l.at + 1) (arms_of l.arm-items l.otherwise);
  within : l.end + 13 * size_of_arms (arms_of (drop l.arm-index l.arm-items) l.otherwise) ≤ l.at + 1 + 13 * size_of_arms (arms_of l.arm-items l.otherwise);
  small : AreSmallArms (arms_of (drop l.arm-index l.arm-items) l.otherwise) → AreSmallArms (arms_of l.arm-items l.otherwise);
}

abbrev pub invariant-end_of_block-loop-statement : goal.invariant-end_of_block-loop-statement
invariant-end_of_block-loop-statement l = record {
  built : IsBuiltBlock (block_of (drop l.statement-index l.all));
  end : block_end l.end (block_of (drop l.statement-index l.all)) ≡ block_end l.at (block_of l.all);
  within : l.end + 13 * size_of_block (block_of (drop l.statement-index l.all)) ≤ l.at + 13 * size_of_block (block_of l.all);
  small : IsSmallBlock (block_of (drop l.statement-index l.all)) → IsSmallBlock (block_of l.all);
}
