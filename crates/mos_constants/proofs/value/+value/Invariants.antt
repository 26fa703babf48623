-- those before, and behind them the values of those that are left, are the values of all
use Rattle.std.proofs.Common.{◌≡◌, ◌++◌, drop, option_map, Ok}
use Rattle.mos_value.specs.Collections.{collection_of}
use Rattle.mos_constants.specs.Constants.{scalar_values}
use Rattle.mos_constants.proofs.value.+value.Given as goal

abbrev pub invariant-items_of-loop-tree : goal.invariant-items_of-loop-tree
invariant-items_of-loop-tree l = record {
  values : option_map (λ more. l.items ++ more) (scalar_values l.scope (drop l.tree-index l.all)) ≡ scalar_values l.scope l.all;
  few : collection_of l.items ≡ Ok l.items;
}
