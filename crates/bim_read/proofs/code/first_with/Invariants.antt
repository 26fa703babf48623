use Rattle.std.proofs.Common.{◌≡◌, drop}
use Rattle.bim_read.specs.Code as code
use Rattle.bim_read.proofs.code.first_with.Given as goal

abbrev pub invariant-loop-i : goal.invariant-loop-i
invariant-loop-i l = code.first_with l.byte (drop l.i-index l.all) ≡ code.first_with l.byte l.all
