-- what is left of the one is the same as what is left of the other, where all of it is
use Rattle.std.proofs.Common.{◌≡◌, drop}
use Rattle.mos_sorts.specs.Sorts.{same_sort}
use Rattle.mos_written.specs.Tables.{all_same}
use Rattle.mos_written.proofs.same.same_sorts.Given as goal

abbrev pub invariant-loop-sort : goal.invariant-loop-sort
invariant-loop-sort l = all_same same_sort (drop l.sort-index l.a) l.rest ≡ all_same same_sort l.a l.b
