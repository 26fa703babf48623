-- the type is added once for each name before
use Rattle.std.proofs.Common.{◌≡◌, ◌++◌, drop}
use Rattle.mos_declarations.specs.Headings.{for_each}
use Rattle.mos_declarations.proofs.formals.add_each.Given as goal

abbrev pub invariant-loop-name : goal.invariant-loop-name
invariant-loop-name l = l.all ++ for_each (drop l._name-index l.names) l.sort ≡ l.fn.all ++ for_each l.names l.sort
