-- those before have types
use Rattle.std.proofs.Common.{◌≡◌, ◌++◌, drop, option_map}
use Rattle.mos_types.specs.Typs.{field_typs}
use Rattle.mos_types.proofs.typing.field_typs.Given as goal

abbrev pub invariant-loop-sort : goal.invariant-loop-sort
invariant-loop-sort l = option_map (λ rest. l.types ++ rest) (field_typs (drop l.sort-index l.sorts)) ≡ field_typs l.sorts
