-- the names so far, and those of the statements still to come, are the names of all
use Rattle.std.proofs.Common.{◌≡◌, drop, map}
use Rattle.mos_meaning.specs.Sources.{block, core_of_top, names_from}
use Rattle.bim_compile.proofs.names.note_tops.Given as goal

abbrev pub invariant-loop-top : goal.invariant-loop-top
invariant-loop-top l = names_from l.names (block (map core_of_top (drop l.top-index l.tops))) ≡ names_from l.initial.names (block (map core_of_top l.tops))
