-- what is found in the rest, behind what was found before, is found in all
use Rattle.std.proofs.Common.{◌≡◌, drop, None}
use Rattle.mos_sorts.specs.Scopes.{bound_sort}
use Rattle.mos_sorts.proofs.names.bound_sort.Given as goal

abbrev pub invariant-loop-index : goal.invariant-loop-index
invariant-loop-index l = bound_sort l.name l.found (drop l.index-index l.bound) ≡ bound_sort l.name None l.bound
