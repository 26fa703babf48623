-- what was copied so far, with the lists still to come, are all
use Rattle.std.proofs.Common.{◌≡◌, ◌++◌, drop}
use Rattle.mos_array.proofs.array.copies_of_lists.Given as goal

abbrev pub invariant-loop-list : goal.invariant-loop-list
invariant-loop-list l = l.copied ++ drop l.list-index l.lists ≡ l.lists
