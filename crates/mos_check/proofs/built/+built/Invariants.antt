-- none of those before is at fault
use Rattle.std.proofs.Common.{◌≡◌, drop, map}
use Rattle.mos_check.specs.NotBuilt.{or_later, first_of, unbuilt_in, unbuilt_in_all, unbuilt_arm}
use Rattle.mos_tree.specs.Children.{in_arm}
use Rattle.mos_check.proofs.built.+built.Given as goal

abbrev pub invariant-unbuilt_in_all-loop-statement : goal.invariant-unbuilt_in_all-loop-statement
invariant-unbuilt_in_all-loop-statement l = unbuilt_in_all (drop l.statement-index l.all) ≡ unbuilt_in_all l.all

abbrev pub invariant-unbuilt_in-loop-arm : goal.invariant-unbuilt_in-loop-arm
invariant-unbuilt_in-loop-arm l =
    or_later (first_of (map unbuilt_arm (map (in_arm unbuilt_in) (drop l.arm-index l.arm-items)))) (unbuilt_in_all l.otherwise)
    ≡ or_later (first_of (map unbuilt_arm (map (in_arm unbuilt_in) l.arm-items))) (unbuilt_in_all l.otherwise)
