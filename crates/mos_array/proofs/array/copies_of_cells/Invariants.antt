-- what was copied so far, with the cells still to come, are all
use Rattle.std.proofs.Common.{◌≡◌, ◌++◌, drop}
use Rattle.mos_array.proofs.array.copies_of_cells.Given as goal

abbrev pub invariant-loop-cell : goal.invariant-loop-cell
invariant-loop-cell l = l.copied.items ++ drop l.cell-index l.cells ≡ l.cells
