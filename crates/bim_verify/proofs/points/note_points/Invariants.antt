-- what is noted, or else the first of the points still to come
use Rattle.std.proofs.Common.{◌≡◌, ◌<◌, ℕ, drop, length}
use Rattle.bim_verify.specs.Tables.{number_in, first_number, or_else}
use Rattle.bim_verify.proofs.points.note_points.Given as goal

abbrev pub invariant-loop-point : goal.invariant-loop-point
invariant-loop-point l = record {
  counted : l.number ≡ l.point-index;
  long : length l.numbers ≡ length l.initial.numbers;
  tells : (a : ℕ) → a < length l.numbers → or_else (number_in l.numbers a) (first_number a l.number (drop l.point-index l.points)) ≡ first_number a 0 l.points;
}
