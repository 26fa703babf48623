-- those before are copied
use Rattle.std.proofs.Common.{◌≡◌, ◌++◌, drop}
use Rattle.mos_sorts.proofs.bound.copied_bound.Given as goal

abbrev pub invariant-loop-index : goal.invariant-loop-index
invariant-loop-index l = l.all ++ drop l.index-index l.bound ≡ l.bound
