-- what was made so far, with what is still to come, is the whole
use Rattle.std.proofs.Common.{drop, map}
use Rattle.mos_meaning.specs.Sources.{shown_of, expression}
use Rattle.bim_compile.specs.Built.{AreBuilt}
use Rattle.bim_compile.specs.Parts.{HasRoom, arguments_part}
use Rattle.bim_compile.proofs.StillEmits.{StillEmits}
use Rattle.bim_compile.proofs.statements.emit_arguments.Given as goal

abbrev pub invariant-loop-written : goal.invariant-loop-written
invariant-loop-written l =
    let rest = shown_of (map expression (drop l.written-index l.all)) in
    let part = arguments_part l.context l.line rest in
    record {
      built : AreBuilt rest;
      room : HasRoom l.context part l.draft;
      emits : StillEmits part l.draft (arguments_part l.context l.line (shown_of (map expression l.all))) l.initial.draft;
    }
