-- none of those before has an unknown name
use Rattle.std.proofs.Common.{◌≡◌, drop}
use Rattle.mos_check.specs.Names.{unknown_in_all}
use Rattle.mos_check.proofs.unknown.unknown_in_all.Given as goal

abbrev pub invariant-loop-written : goal.invariant-loop-written
invariant-loop-written l = unknown_in_all (drop l.written-index l.all) l.known ≡ unknown_in_all l.all l.known
