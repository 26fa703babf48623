-- the names so far, and those of the statements still to come, are the names of all
use Rattle.std.proofs.Common.{◌≡◌, drop}
use Rattle.mos_meaning.specs.Sources.{block_of, arms_of, names_from, names_in_arms}
use Rattle.bim_compile.proofs.names.+notes.Given as goal

abbrev pub invariant-note_statement-loop-arm : goal.invariant-note_statement-loop-arm
invariant-note_statement-loop-arm l =
    names_in_arms l.names (arms_of (drop l.arm-index l.arm-items) l.otherwise) ≡ names_in_arms l.initial.names (arms_of l.arm-items l.otherwise)

abbrev pub invariant-note_block-loop-statement : goal.invariant-note_block-loop-statement
invariant-note_block-loop-statement l =
    names_from l.names (block_of (drop l.statement-index l.all)) ≡ names_from l.initial.names (block_of l.all)
