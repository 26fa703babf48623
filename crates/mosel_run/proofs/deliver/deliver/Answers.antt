-- all deeds were done, or those before one
use Rattle.std.proofs.Common.{◌∙◌, List, ap, refl, subst}
use Rattle.mosel_run.specs.declared.answer.Deed.{Deed}
use Rattle.mosel_run.specs.Delivered.{whole}
use Rattle.mosel_run.specs.Doing.{StopsAt}
use Rattle.mosel_run.specs.States.{states, held_of, held_after}
use Rattle.mosel_run.proofs.DoingDeeds.{can_break, left_there, stopped}
use Rattle.mosel_run.proofs.deliver.deliver.Goals as goal

pub status_by-requires : goal.status_by-requires
status_by-requires g c =
    let before = (states (g.F.Folder.content c.args.folder.now) (g.F.Folder.faults c.args.folder.now) (g.K.Sink.bytes c.args.sink.now) (g.K.Sink.faults c.args.sink.now)) in
    let after = (states (g.F.Folder.content c.do_each.new.folder) (g.F.Folder.faults c.do_each.new.folder) (g.K.Sink.bytes c.do_each.new.sink) (g.K.Sink.faults c.do_each.new.sink)) in
    can_break before after _ c.remove.result c.in-Broke.cause
    (left_there c.args.answer.deeds before after c.in-Broke.place c.in-Broke.cause c.remove.result
    (subst (λ (deeds : List Deed). StopsAt deeds before after c.in-Broke.place c.in-Broke.cause) c.as_slice.ensures c.in-Broke.ensures.deeds) c.remove.ensures.item)

pub returns-in-All-clause-delivered : goal.returns-in-All-clause-delivered
returns-in-All-clause-delivered g c =
    whole c.args.answer.status refl (c.in-All.ensures.deeds ∙ ap (held_after (held_of (states (g.F.Folder.content c.args.folder.now) (g.F.Folder.faults c.args.folder.now) (g.K.Sink.bytes c.args.sink.now) (g.K.Sink.faults c.args.sink.now)))) c.as_slice.ensures)

pub returns-in-Broke-clause-delivered : goal.returns-in-Broke-clause-delivered
returns-in-Broke-clause-delivered g c =
    let before = (states (g.F.Folder.content c.args.folder.now) (g.F.Folder.faults c.args.folder.now) (g.K.Sink.bytes c.args.sink.now) (g.K.Sink.faults c.args.sink.now)) in
    let after = (states (g.F.Folder.content c.do_each.new.folder) (g.F.Folder.faults c.do_each.new.folder) (g.K.Sink.bytes c.do_each.new.sink) (g.K.Sink.faults c.do_each.new.sink)) in
    stopped c.args.answer before after c.in-Broke.place c.in-Broke.cause c.remove.result c.status_by.result
    (subst (λ (deeds : List Deed). StopsAt deeds before after c.in-Broke.place c.in-Broke.cause) c.as_slice.ensures c.in-Broke.ensures.deeds)
    c.remove.ensures.item c.status_by.ensures
