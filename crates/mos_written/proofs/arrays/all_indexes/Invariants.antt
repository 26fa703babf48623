-- those before, and behind them the others, are all
use Rattle.std.proofs.Common.{◌≡◌, ◌++◌, drop, option_map}
use Rattle.mos_written.specs.Dimensions.{all_indexes}
use Rattle.mos_written.proofs.arrays.all_indexes.Given as goal

abbrev pub invariant-loop-index : goal.invariant-loop-index
invariant-loop-index l = option_map (λ more. l.all ++ more) (all_indexes (drop l.index-index l.indexes)) ≡ all_indexes l.indexes
