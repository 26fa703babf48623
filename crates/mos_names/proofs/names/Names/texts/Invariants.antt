-- the names copied so far, with those still to come, are the names
use Rattle.std.proofs.Common.{◌≡◌, ◌++◌, map, drop}
use Rattle.std.specs.Map.Iter.{deref}
use Rattle.mos_names.proofs.names.Names.texts.Given as goal

abbrev pub invariant-loop-name : goal.invariant-loop-name
invariant-loop-name l = l.texts ++ map deref (drop l.name-index l.name-items) ≡ l.self
