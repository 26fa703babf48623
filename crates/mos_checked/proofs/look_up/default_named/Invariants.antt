-- what is found in the rest is found in all
use Rattle.std.proofs.Common.{◌≡◌, drop}
use Rattle.mos_checked.specs.Named.{default_named}
use Rattle.mos_checked.proofs.look_up.default_named.Given as goal

abbrev pub invariant-loop-parameter : goal.invariant-loop-parameter
invariant-loop-parameter l = default_named l.name (drop l.parameter-index l.all) ≡ default_named l.name l.all
