-- those before are bound
use Rattle.std.proofs.Common.{◌≡◌, drop}
use Rattle.mos_sorts.specs.Scopes.{all_bound}
use Rattle.mos_sorts.proofs.bound.bind.Given as goal

abbrev pub invariant-loop-name : goal.invariant-loop-name
invariant-loop-name l = all_bound (drop l.name-index l.names) l.sort l.bound ≡ all_bound l.names l.sort l.fn.bound
