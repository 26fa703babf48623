-- the text is written, in whole or in part
use Rattle.std.proofs.Common.{◌≡◌, ℕ, List, refl, sym, subst}
use Rattle.mos_text.specs.SinkBytes.{bytes_after, AppendedPart}
use Rattle.mosel_run.specs.declared.answer.Deed.{Deed}
use Rattle.mosel_run.specs.Doing.{IsDone}
use Rattle.mosel_run.specs.States.{states}
use Rattle.mosel_run.proofs.DoingDeeds.{written_so}
use Rattle.mosel_run.proofs.deliver.do_one.Goals as goal

pub returns-in-Write-clause-deed : goal.returns-in-Write-clause-deed
returns-in-Write-clause-deed g c =
    let before = (states (g.F.Folder.content c.args.folder.now) (g.F.Folder.faults c.args.folder.now) (g.K.Sink.bytes c.args.sink.now) (g.K.Sink.faults c.args.sink.now)) in
    let after = (states (g.F.Folder.content c.args.folder.now) (g.F.Folder.faults c.args.folder.now) (g.K.Sink.bytes c.write_whole.new.sink) (g.K.Sink.faults c.write_whole.new.sink)) in
    let bytes = g.K.Sink.bytes c.args.sink.now in
    subst (λ (deed : Deed). IsDone deed before after c.cause_of_write.result) (sym c.in-Write.is)
    (written_so before after c.in-Write.text c.write_whole.result c.cause_of_write.result c.cause_of_write.ensures
    (λ whole. subst (λ (text : List ℕ). g.K.Sink.bytes c.write_whole.new.sink ≡ bytes_after bytes text) c.as_bytes.ensures (c.write_whole.ensures.whole whole))
    (subst (AppendedPart bytes (g.K.Sink.bytes c.write_whole.new.sink)) c.as_bytes.ensures c.write_whole.ensures.part)
    c.write_whole.ensures.failed refl)
