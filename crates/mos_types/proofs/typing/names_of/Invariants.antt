-- those before are copied
use Rattle.std.proofs.Common.{◌≡◌, ◌++◌, drop}
use Rattle.mos_types.proofs.typing.names_of.Given as goal

abbrev pub invariant-loop-name : goal.invariant-loop-name
invariant-loop-name l = l.all ++ drop l.name-index l.names ≡ l.names
