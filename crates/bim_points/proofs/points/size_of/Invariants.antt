-- the widths so far, with those still to come
use Rattle.std.proofs.Common.{◌≡◌, ◌+◌, drop}
use Rattle.bim_code.specs.Code.{code_size}
use Rattle.bim_points.proofs.points.size_of.Given as goal

abbrev pub invariant-loop-i : goal.invariant-loop-i
invariant-loop-i l = l.size + code_size (drop l.i-index l.code) ≡ code_size l.code
