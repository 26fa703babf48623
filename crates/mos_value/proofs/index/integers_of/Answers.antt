-- each integer goes behind those before, and the rest follows
use Rattle.std.proofs.Common.{◌+◌, drop, ap, sym, ◌∙◌}
use Rattle.std.proofs.lemmas.List.{drop_all}
use Rattle.mos_value.specs.Sets.{union}
use Rattle.mos_value.specs.Indexes.{integers}
use Rattle.mos_value.proofs.SetLemmas.{union-next}
use Rattle.mos_value.proofs.SetLaws.{set_stays}
use Rattle.mos_value.proofs.index.integers_of.Goals as goal

pub loop-item-init : goal.loop-item-init
loop-item-init c = ap (λ numbers. union (integers numbers) c.args.items.now) c.new-numbers.ensures.empty

pub loop-item-preserved : goal.loop-item-preserved
loop-item-preserved c =
    let items = c.args.items.now in
    let place = c.loop-item.item-index in
    let noted = c.if-not-note_integer.false in
    ap (λ members. union members (drop (place + 1) items)) (rw noted at c.note_integer.ensures)
    ∙ (sym (union-next (integers c.loop-item.numbers.keys) items place c.item-item.result c.loop-item-test.true c.item-item.is) ∙ c.loop-item.invariant)

pub returns-in-Ok : goal.returns-in-Ok
returns-in-Ok c = λ once.
    let items = c.args.items.now in
    ap (λ numbers. integers numbers.keys) c.in-Ok.ensures.ok
    ∙ (ap (union (integers c.loop-item.numbers.keys)) (sym (drop_all c.loop-item.item-index items c.loop-item-test.false))
    ∙ (c.loop-item.invariant ∙ set_stays items once))
