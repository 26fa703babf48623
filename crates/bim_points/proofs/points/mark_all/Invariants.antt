-- what is marked, or wanted by the instructions still to come
use Rattle.std.proofs.Common.{◌≡◌, ◌<◌, ◌+◌, ℕ, drop, length}
use Rattle.std.specs.Prelude.{◌||◌}
use Rattle.bim_code.specs.Code.{code_size}
use Rattle.bim_points.specs.Marks.{is_marked}
use Rattle.bim_points.specs.Wanted.{is_wanted, is_wanted_from}
use Rattle.bim_points.proofs.points.mark_all.Given as goal

abbrev pub invariant-loop-i : goal.invariant-loop-i
invariant-loop-i l = record {
  placed : l.place + code_size (drop l.i-index l.code) ≡ code_size l.code;
  long : length l.marks ≡ code_size l.code;
  tells : (a : ℕ) → a < length l.marks → (is_marked l.marks a || is_wanted_from l.place (drop l.i-index l.code) a) ≡ is_wanted l.code a;
}
