-- so far the items are the same
use Rattle.std.proofs.Common.{◌≡◌, take}
use Rattle.mos_value.proofs.lists.same_list.Given as goal

abbrev pub invariant-loop-place : goal.invariant-loop-place
invariant-loop-place l = take l.place l.a ≡ take l.place l.b
