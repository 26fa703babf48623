-- ranges with the same integers have the same items
use Rattle.mos_value.specs.Ranges.{range_members}
use Rattle.vm_values.proofs.SameItems.{tests_items}
use Rattle.vm_values.proofs.comparisons.same_ranges.Goals as goal

pub returns : goal.returns
returns c = tests_items c.laws_of_sets.ensures.same_is_equal c.same_range.result (range_members c.args.a.0 c.args.a.1) (range_members c.args.b.0 c.args.b.1) c.same_range.ensures
