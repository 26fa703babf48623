-- what is found in the rest is found in all
use Rattle.std.proofs.Common.{◌≡◌, drop}
use Rattle.mos_checked.specs.Named.{sort_named}
use Rattle.mos_checked.proofs.look_up.sort_named.Given as goal

abbrev pub invariant-loop-variable : goal.invariant-loop-variable
invariant-loop-variable l = sort_named l.name (drop l.variable-index l.all) ≡ sort_named l.name l.all
