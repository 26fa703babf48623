-- the points so far, with those still to come
use Rattle.std.proofs.Common.{◌≡◌, ◌+◌, ◌++◌, drop}
use Rattle.bim_code.specs.Code.{code_size}
use Rattle.bim_points.specs.Marks.{is_marked}
use Rattle.bim_points.specs.Wanted.{empty_points}
use Rattle.bim_points.proofs.points.points_at.Given as goal

abbrev pub invariant-loop-i : goal.invariant-loop-i
invariant-loop-i l = record {
  placed : l.place + code_size (drop l.i-index l.code) ≡ code_size l.code;
  taken : l.points ++ empty_points (is_marked l.marks) l.place (drop l.i-index l.code) ≡ empty_points (is_marked l.marks) 0 l.code;
}
