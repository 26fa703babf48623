-- each law is proved as a lemma
use Rattle.mos_value.proofs.RangeLaws.{range_has_its_size, range_has_just_between}
use Rattle.mos_value.proofs.laws.laws_of_ranges.Goals as goal

pub returns : goal.returns
returns c = record { range_has_its_size = range_has_its_size; range_has_just_between = range_has_just_between }
