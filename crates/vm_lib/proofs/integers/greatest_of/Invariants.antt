-- the one so far, with the numbers still to come, gives that of all
use Rattle.std.proofs.Common.{◌≡◌, drop}
use Rattle.std.specs.Prelude.{fold}
use Rattle.std.specs.Int.{int_max}
use Rattle.vm_lib.proofs.integers.greatest_of.Given as goal

abbrev pub invariant-loop-number : goal.invariant-loop-number
invariant-loop-number l = fold int_max l.greatest (drop l.number-index l.more) ≡ fold int_max l.initial.greatest l.more
