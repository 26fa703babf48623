-- the one so far, with the numbers still to come, gives that of all
use Rattle.std.proofs.Common.{◌≡◌, drop}
use Rattle.std.specs.Prelude.{fold}
use Rattle.std.specs.Int.{int_min}
use Rattle.vm_lib.proofs.integers.least_of.Given as goal

abbrev pub invariant-loop-number : goal.invariant-loop-number
invariant-loop-number l = fold int_min l.least (drop l.number-index l.more) ≡ fold int_min l.initial.least l.more
