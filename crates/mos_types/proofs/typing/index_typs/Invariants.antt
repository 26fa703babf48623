-- those before have their types
use Rattle.std.proofs.Common.{◌≡◌, ◌++◌, drop, map}
use Rattle.mos_types.specs.Typs.{member_typ}
use Rattle.mos_types.proofs.typing.index_typs.Given as goal

abbrev pub invariant-loop-member : goal.invariant-loop-member
invariant-loop-member l = l.all ++ map member_typ (drop l.member-index l.members) ≡ map member_typ l.members
