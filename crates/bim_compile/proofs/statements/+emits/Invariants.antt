-- what was made so far, with what is still to come, is the whole
use Rattle.std.proofs.Common.{drop}
use Rattle.mos_meaning.specs.Sources.{block_of, arms_of, core_of}
use Rattle.bim_compile.specs.Built.{AreBuiltArms, IsBuiltBlock, arms_in}
use Rattle.bim_compile.specs.Parts.{HasRoom, arms_part, block_part}
use Rattle.bim_compile.proofs.StillEmits.{StillEmits}
use Rattle.bim_compile.proofs.statements.+emits.Given as goal

abbrev pub invariant-emit_arms-loop-arm : goal.invariant-emit_arms-loop-arm
invariant-emit_arms-loop-arm l =
    let rest = arms_of (drop l.arm-index l.arm-items) l.otherwise in
    let part = arms_part l.context l.end l.targets rest in
    record {
      built : AreBuiltArms rest;
      room : HasRoom l.context part l.draft;
      emits : StillEmits part l.draft (arms_part l.context l.end l.targets (arms_in (core_of l.statement))) l.initial.draft;
    }

abbrev pub invariant-emit_block-loop-statement : goal.invariant-emit_block-loop-statement
invariant-emit_block-loop-statement l =
    let rest = block_of (drop l.statement-index l.all) in
    let part = block_part l.context l.targets rest in
    record {
      built : IsBuiltBlock rest;
      room : HasRoom l.context part l.draft;
      emits : StillEmits part l.draft (block_part l.context l.targets (block_of l.all)) l.initial.draft;
    }
