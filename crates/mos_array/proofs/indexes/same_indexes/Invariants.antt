-- what is left of the one is the same as what is left of the other, where all of it is
use Rattle.std.proofs.Common.{◌≡◌, drop}
use Rattle.mos_array.specs.Contents.{same_indexes}
use Rattle.mos_array.proofs.indexes.same_indexes.Given as goal

abbrev pub invariant-loop-index : goal.invariant-loop-index
invariant-loop-index l = same_indexes (drop l.index-index l.a) l.rest ≡ same_indexes l.a l.b
