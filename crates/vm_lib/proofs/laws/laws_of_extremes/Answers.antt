-- what std says of a fold that takes the lesser or the greater of two
use Rattle.std.proofs.lemmas.Int.{fold-int_min_bounds, fold-int_min_reached, fold-int_max_bounds, fold-int_max_reached}
use Rattle.vm_lib.proofs.laws.laws_of_extremes.Goals as goal

pub returns : goal.returns
returns c = record {
  none_is_below = λ first least more is. fold-int_min_bounds first more least cc;
  least_is_there = λ first least more is. fold-int_min_reached first more least cc;
  none_is_above = λ first greatest more is. fold-int_max_bounds first more greatest cc;
  greatest_is_there = λ first greatest more is. fold-int_max_reached first more greatest cc;
}
