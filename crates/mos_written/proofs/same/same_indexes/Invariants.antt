-- what is left of the one is the same as what is left of the other, where all of it is
use Rattle.std.proofs.Common.{◌≡◌, drop}
use Rattle.mos_sorts.specs.Sorts.{same_member}
use Rattle.mos_written.specs.Tables.{all_same}
use Rattle.mos_written.proofs.same.same_indexes.Given as goal

abbrev pub invariant-loop-index : goal.invariant-loop-index
invariant-loop-index l = all_same same_member (drop l.index-index l.a) l.rest ≡ all_same same_member l.a l.b
