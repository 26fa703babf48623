-- what is kept once the entry was put
use Rattle.std.proofs.Common.{◌≤◌, ℕ, ◌+◌, ◌-◌, List, sym, ap, ◌∙◌, subst, arith}
use Rattle.job_calls.specs.declared.entry.Entry.{Entry}
use Rattle.hub_core.specs.Hubs.{MayMake, IsAnswered, entry_of}
use Rattle.hub_core.specs.Keeping.{wanted_for, kept_after}
use Rattle.hub_core.proofs.Keeping.{recorded}
use Rattle.hub_core.proofs.Starting.{next_starts}
use Rattle.hub_core.proofs.hub.Hub.record.Goals as goal

pub overflow_add-self-2 : goal.overflow_add-self-2
overflow_add-self-2 c =
    let wanted = c.wanted_for-wanted.ensures in
    let spare = subst (λ (v : List Entry × ℕ). 1 + wanted_for c.args.kept ≤ v.1) (sym c.self.view_is) c.requires.room in
    let room = c.self.invariant.room in
    let fits = c.room_fits.ensures in
    omega (arith, wanted, spare, room, fits)

pub invariant_of-self-2 : goal.invariant_of-self-2
invariant_of-self-2 c =
    let journal = c.self.inside.journal.0 in
    let total = c.self.inside.total in
    let e : Entry = entry_of c.args.lane c.args.run c.args.call c.args.reply in
    let fit = subst (λ (v : List Entry × ℕ). MayMake v.0 c.args.lane c.args.run c.args.call) (sym c.self.view_is) c.requires.fit in
    let answered = subst (λ (v : List Entry × ℕ). IsAnswered v.0 c.args.lane c.args.run c.args.call c.args.reply) (sym c.self.view_is) c.requires.answer in
    let wanted = c.wanted_for-wanted.ensures in
    let spare = subst (λ (v : List Entry × ℕ). 1 + wanted_for c.args.kept ≤ v.1) (sym c.self.view_is) c.requires.room in
    recorded c.grows.ensures c.sources_stay.ensures c.self.inside.journal c.add.new.self c.self.inside.kept.items c.add-2.new.runs.items
    total (total + c.wanted_for-wanted.result) c.self.inside.spare (c.self.inside.spare - (1 + c.wanted_for-wanted.result)) e c.args.kept
    c.self.invariant (record { fit = fit; answered = answered }) c.in_default.ensures.added c.in_default.ensures.room c.requires.starts
    (next_starts journal c.args.lane c.args.run c.args.call c.args.reply answered)
    (c.add-2.ensures ∙ ap (λ r. kept_after r c.args.kept) c.make_place.ensures.same)
    (ap (λ n. total + n) wanted) (omega (arith, wanted, spare))
