-- a small model has few names and few texts
use Rattle.std.proofs.Common.{map, rules, arith}
use Rattle.mos_meaning.specs.Sources.{block, core_of_top}
use Rattle.bim_compile.proofs.SizeLemmas.{texts_few_block, variables_few}
use Rattle.bim_compile.proofs.compiler.draft_of.Goals as goal

pub emit_tops-requires-clause-room : goal.emit_tops-requires-clause-room
emit_tops-requires-clause-room c =
    record {
      few_names = rw c.requires.names (omega (arith, variables_few (block (map core_of_top c.args.tops.now)), c.requires.small));
      few_texts = rw c.new-draft.ensures.constants (omega (arith, texts_few_block (block (map core_of_top c.args.tops.now)), c.requires.small));
      room = search rules;
    }
