use Rattle.bim_points.proofs.Marked.{placed_on, told_on, as_long}
use Rattle.std.proofs.Common.{length, ap, ◌∙◌}
use Rattle.bim_points.proofs.points.mark_all.Goals as goal

pub loop-i-preserved : goal.loop-i-preserved
loop-i-preserved c = record {
  placed = placed_on c.args.code.now c.loop-i.i-index c.loop-i.place c.width-place.result c.loop-i-test.true c.loop-i.invariant.placed c.width-place.ensures;
  long = ap length c.mark_instruction.ensures ∙ as_long c.loop-i.marks c.loop-i.place _ ∙ c.loop-i.invariant.long;
  tells = told_on c.args.code.now c.loop-i.i-index c.loop-i.place c.width-place.result c.loop-i.marks c.mark_instruction.new.marks
      c.loop-i-test.true c.mark_instruction.ensures c.width-place.ensures c.loop-i.invariant.tells;
}
