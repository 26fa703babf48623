-- as many copies as passes
use Rattle.std.proofs.Common.{◌≡◌, replicate}
use Rattle.mos_array.proofs.array.copies_of_default.Given as goal

abbrev pub invariant-loop-cell : goal.invariant-loop-cell
invariant-loop-cell l = l.cells.items ≡ replicate l._cell l.default
