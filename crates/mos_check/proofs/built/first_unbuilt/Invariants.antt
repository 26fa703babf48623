-- none of those before is at fault
use Rattle.std.proofs.Common.{◌≡◌, drop, map}
use Rattle.mos_check.specs.NotBuilt.{first_of, unbuilt_in_top}
use Rattle.mos_check.proofs.built.first_unbuilt.Given as goal

abbrev pub invariant-loop-top : goal.invariant-loop-top
invariant-loop-top l = first_of (map unbuilt_in_top (drop l.top-index l.tops)) ≡ first_of (map unbuilt_in_top l.tops)
