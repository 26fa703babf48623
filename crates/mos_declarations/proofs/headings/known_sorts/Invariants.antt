-- those before that are there are known
use Rattle.std.proofs.Common.{◌≡◌, ◌++◌, drop}
use Rattle.mos_declarations.specs.Headings.{known_sorts}
use Rattle.mos_declarations.proofs.headings.known_sorts.Given as goal

abbrev pub invariant-loop-sort : goal.invariant-loop-sort
invariant-loop-sort l = l.known ++ known_sorts (drop l.sort-index l.sorts) ≡ known_sorts l.sorts
