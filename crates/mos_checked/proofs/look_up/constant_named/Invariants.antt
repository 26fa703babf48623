-- what is found in the rest is found in all
use Rattle.std.proofs.Common.{◌≡◌, drop}
use Rattle.mos_checked.specs.Named.{constant_named}
use Rattle.mos_checked.proofs.look_up.constant_named.Given as goal

abbrev pub invariant-loop-constant : goal.invariant-loop-constant
invariant-loop-constant l = constant_named l.name (drop l.constant-index l.all) ≡ constant_named l.name l.all
