-- a run that ends is live, and room is kept for its end
use Rattle.std.proofs.Common.{◌≡◌, ◌≤◌, ℕ, ◌+◌, ◌-◌, List, Some, false, refl, sym, subst, arith}
use Rattle.job_calls.specs.declared.call.Call.TheVariants.{Finish}
use Rattle.job_calls.specs.declared.entry.Entry.{Entry}
use Rattle.job_calls.specs.Entries.{has_quit}
use Rattle.hub_core.specs.Hubs.{MayMake}
use Rattle.hub_core.proofs.Keeping.{live_parts}
use Rattle.hub_core.proofs.Giving.{within_total, keeps_one, ended, done}
use Rattle.hub_core.proofs.hub.Hub.finish.Goals as goal

pub swap-was-requires : goal.swap-was-requires
swap-was-requires c =
    let call = Finish c.args.end in
    let fit : MayMake c.self.inside.journal.0 c.args.lane (Some c.args.run) call =
    subst (λ (v : List Entry × ℕ). MayMake v.0 c.args.lane (Some c.args.run) call) (sym c.self.view_is) c.requires.fit in
    let parts = live_parts c.args.run c.self.inside.journal.0 (c.callers_are_live.ensures.live c.args.lane c.args.run call fit) in
    let small = parts.0 in
    let all = c.self.invariant.all in
    omega (arith, small, all)

pub overflow_sub-self : goal.overflow_sub-self
overflow_sub-self c =
    subst (λ n. n ≤ c.self.inside.total) (sym c.room.ensures)
    (within_total c.self.inside.journal c.self.inside.kept.items c.self.inside.total c.self.inside.spare c.args.run c.swap-was.result c.self.invariant
    c.swap-was.ensures.was)

pub add-requires-clause-room : goal.add-requires-clause-room
add-requires-clause-room c =
    let call = Finish c.args.end in
    let fit : MayMake c.self.inside.journal.0 c.args.lane (Some c.args.run) call =
    subst (λ (v : List Entry × ℕ). MayMake v.0 c.args.lane (Some c.args.run) call) (sym c.self.view_is) c.requires.fit in
    let within = within_total c.self.inside.journal c.self.inside.kept.items c.self.inside.total c.self.inside.spare c.args.run c.swap-was.result
    c.self.invariant c.swap-was.ensures.was in
    let one = keeps_one c.self.inside.journal c.self.inside.kept.items c.self.inside.total c.self.inside.spare c.args.run c.swap-was.result
    c.self.invariant (c.callers_are_live.ensures.live c.args.lane c.args.run call fit) c.swap-was.ensures.was in
    let room = c.self.invariant.room in
    omega (arith, within, one, room)

pub invariant_of-self : goal.invariant_of-self
invariant_of-self c =
    let call = Finish c.args.end in
    let total = c.self.inside.total in
    let fit : MayMake c.self.inside.journal.0 c.args.lane (Some c.args.run) call =
    subst (λ (v : List Entry × ℕ). MayMake v.0 c.args.lane (Some c.args.run) call) (sym c.self.view_is) c.requires.fit in
    let goes : has_quit c.self.inside.journal.0 ≡ false =
    subst (λ (v : List Entry × ℕ). has_quit v.0 ≡ false) (sym c.self.view_is) c.requires.goes_on in
    let within : c.room.result ≤ total = subst (λ n. n ≤ total) (sym c.room.ensures)
    (within_total c.self.inside.journal c.self.inside.kept.items total c.self.inside.spare c.args.run c.swap-was.result c.self.invariant
    c.swap-was.ensures.was) in
    let added = c.add.ensures.sure refl in
    ended c.grows.ensures c.sources_stay.ensures c.self.inside.journal c.add.new.self c.self.inside.kept.items c.swap-was.new.runs.items
    total (total - c.room.result) c.self.inside.spare c.args.lane c.args.run c.args.end c.swap-was.result c.self.invariant fit goes
    (c.callers_are_live.ensures.live c.args.lane c.args.run call fit) (c.callers_are_live.ensures.given c.args.lane c.args.run call fit)
    (done c.add.result added c.add.ensures.added) (done c.add.result added c.add.ensures.room)
    c.swap-was.ensures.was c.swap-was.ensures.set
    (subst (λ n. (total - c.room.result) + n ≡ total) c.room.ensures (omega (arith, within)))
