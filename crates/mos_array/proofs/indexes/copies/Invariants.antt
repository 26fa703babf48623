-- what was copied so far, with the scalars still to come, is the whole list
use Rattle.std.proofs.Common.{◌≡◌, ◌++◌, drop}
use Rattle.mos_array.proofs.indexes.copies.Given as goal

abbrev pub invariant-loop-scalar : goal.invariant-loop-scalar
invariant-loop-scalar l = l.copied ++ drop l.scalar-index l.scalars ≡ l.scalars
