-- the rest decides
use Rattle.std.proofs.Common.{◌≡◌, drop}
use Rattle.std.specs.List.{list_all}
use Rattle.bim_rules.specs.Types.{is_index}
use Rattle.bim_rules.proofs.types.all_indexes.Given as goal

abbrev pub invariant-loop-typ : goal.invariant-loop-typ
invariant-loop-typ l = list_all (is_index l.before) (drop l.typ-index l.indexes) ≡ list_all (is_index l.before) l.indexes
