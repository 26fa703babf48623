-- the rest decides
use Rattle.std.proofs.Common.{◌≡◌, drop}
use Rattle.std.specs.List.{list_all}
use Rattle.bim_rules.specs.Types.{is_type}
use Rattle.bim_rules.proofs.types.all_types.Given as goal

abbrev pub invariant-loop-typ : goal.invariant-loop-typ
invariant-loop-typ l = list_all (is_type l.image) (drop l.typ-index l.types) ≡ list_all (is_type l.image) l.types
