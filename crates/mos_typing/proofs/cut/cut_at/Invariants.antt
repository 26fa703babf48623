use Rattle.std.proofs.Common.{◌≡◌, ◌≤◌, length, take, drop}
use Rattle.mos_typing.specs.Cutting.{ahead, halves_at}
use Rattle.mos_typing.proofs.cut.cut_at.Given as goal

abbrev pub invariant-loop-rest : goal.invariant-loop-rest
invariant-loop-rest l = record {
  value : ahead (take l.at l.words) (halves_at l.mark l.depth l.rest) ≡ halves_at l.mark 0 l.words;
  place : l.rest ≡ drop l.at l.words;
  within : l.at ≤ length l.words;
  shallow : l.depth ≤ l.at;
}

abbrev pub decreases-loop-rest : goal.decreases-loop-rest
decreases-loop-rest l = length l.rest
