-- what was made so far, with what is still to come, is the whole
use Rattle.std.proofs.Common.{drop, map}
use Rattle.mos_meaning.specs.Sources.{block, core_of_top}
use Rattle.bim_compile.specs.Built.{IsBuiltBlock}
use Rattle.bim_compile.specs.Parts.{HasRoom, block_part}
use Rattle.bim_compile.proofs.StillEmits.{StillEmits}
use Rattle.bim_compile.proofs.statements.emit_tops.Given as goal

abbrev pub invariant-loop-top : goal.invariant-loop-top
invariant-loop-top l =
    let rest = block (map core_of_top (drop l.top-index l.tops)) in
    let part = block_part l.context l.targets rest in
    record {
      built : IsBuiltBlock rest;
      room : HasRoom l.context part l.draft;
      emits : StillEmits part l.draft (block_part l.context l.targets (block (map core_of_top l.tops))) l.initial.draft;
    }
