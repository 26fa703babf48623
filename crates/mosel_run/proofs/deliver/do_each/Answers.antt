-- one deed more is done
use Rattle.std.proofs.Common.{◌+◌, ◌∙◌, ap, sym, Some, arith}
use Rattle.std.proofs.lemmas.Option.{slice_get-get_or}
use Rattle.mosel_run.specs.States.{Held, states, held_of, held_by}
use Rattle.mosel_run.proofs.DoingDeeds.{one_more}
use Rattle.mosel_run.proofs.deliver.do_each.Goals as goal

pub loop-deed-preserved : goal.loop-deed-preserved
loop-deed-preserved g c = record {
  place = ap (λ n. n + 1) c.loop-deed.invariant.place;
  held =
      c.in-None.ensures.deed
      ∙ ap (λ (held : Held). held_by held c.deed-item.result) c.loop-deed.invariant.held
      ∙ sym (one_more (held_of (states (g.F.Folder.content c.args.folder.now) (g.F.Folder.faults c.args.folder.now) (g.K.Sink.bytes c.args.sink.now) (g.K.Sink.faults c.args.sink.now))) c.args.deeds.now c.loop-deed.deed-index c.deed-item.result
      (slice_get-get_or c.args.deeds.now c.loop-deed.deed-index c.deed-item.result c.loop-deed-test.true ∙ ap Some (sym c.deed-item.is)));
  folder_faults = let earlier = c.loop-deed.invariant.folder_faults in let later = c.in-None.ensures.folder_faults in omega (arith, earlier, later);
  sink_faults = let earlier = c.loop-deed.invariant.sink_faults in let later = c.in-None.ensures.sink_faults in omega (arith, earlier, later);
}
