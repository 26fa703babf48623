-- a run that no lane was given has its texts and its room
use Rattle.std.proofs.Common.{◌≡◌, ◌≤◌, ℕ, ◌-◌, List, None, refl, sym, ap, ◌∙◌, subst, arith, rules}
use Rattle.std.proofs.lemmas.Option.{none-some}
use Rattle.job_calls.specs.declared.call.Call.TheVariants.{Claim}
use Rattle.job_calls.specs.declared.entry.Entry.{Entry}
use Rattle.job_calls.specs.declared.reply.Answer.TheVariants.{Ready}
use Rattle.job_calls.specs.declared.reply.Reply.TheVariants.{Claimed as Gives}
use Rattle.hub_core.specs.declared.kept.Kept.TheVariants.{Unclaimed}
use Rattle.hub_core.specs.Hubs.{MayMake, IsAnswered, with_entry}
use Rattle.hub_core.specs.Keeping.{GivesRun, room_for}
use Rattle.hub_core.proofs.Giving.{next_is, within_total, same_at, texts_are, claimed, given, done}
use Rattle.hub_core.proofs.hub.Hub.give.Goals as goal

pub unreachable-requires : goal.unreachable-requires
unreachable-requires c =
    let journal = c.self.inside.journal.0 in
    let gives = subst (λ (v : List Entry × ℕ). GivesRun v.0 c.args.lane c.args.run) (sym c.self.view_is) c.requires.gives in
    let next = next_is journal c.args.run gives.unclaimed in
    let has = c.runs_have_sources.ensures journal c.self.invariant.legal c.args.run next.1 in
    none-some has.0 (sym c.in_default.is ∙ c.source_of.ensures ∙ has.2.source_is)

pub swap-requires : goal.swap-requires
swap-requires c =
    let gives = subst (λ (v : List Entry × ℕ). GivesRun v.0 c.args.lane c.args.run) (sym c.self.view_is) c.requires.gives in
    let next = next_is c.self.inside.journal.0 c.args.run gives.unclaimed in
    let small = next.1 in
    let all = c.self.invariant.all in
    omega (arith, small, all)

pub unreachable-requires-in_default-swap : goal.unreachable-requires-in_default-swap
unreachable-requires-in_default-swap c =
    let gives = subst (λ (v : List Entry × ℕ). GivesRun v.0 c.args.lane c.args.run) (sym c.self.view_is) c.requires.gives in
    let next = next_is c.self.inside.journal.0 c.args.run gives.unclaimed in
    let had = c.self.invariant.texts c.args.run next.1 next.0 in
    c.in_default-swap.not-Unclaimed had.0 had.0 (same_at _ c.swap.result (Unclaimed had.0 had.0) c.swap.ensures.was had.1)

pub overflow_sub-self : goal.overflow_sub-self
overflow_sub-self c =
    let within : 2 ≤ c.self.inside.total = subst (λ x. room_for x ≤ c.self.inside.total) c.in-Unclaimed.is
    (within_total c.self.inside.journal c.self.inside.kept.items c.self.inside.total c.self.inside.spare c.args.run c.swap.result c.self.invariant
    c.swap.ensures.was) in
    omega (arith, within)

-- the answer that the lane gets
pub add-requires-clause-legal : goal.add-requires-clause-legal
add-requires-clause-legal c =
    let journal = c.self.inside.journal.0 in
    let gives = subst (λ (v : List Entry × ℕ). GivesRun v.0 c.args.lane c.args.run) (sym c.self.view_is) c.requires.gives in
    let fit = subst (λ (v : List Entry × ℕ). MayMake v.0 c.args.lane None Claim) (sym c.self.view_is) c.requires.fit in
    let next = next_is journal c.args.run gives.unclaimed in
    let texts = texts_are c.self.inside.kept.items journal c.args.run c.swap.result c.in-Unclaimed.entry c.in-Unclaimed.reply
    (c.self.invariant.texts c.args.run next.1 next.0) c.swap.ensures.was c.in-Unclaimed.is in
    c.grows.ensures journal _ c.self.invariant.legal
    (record {
      fit = fit;
      answered = claimed journal c.args.lane c.args.run c.in-Some.source c.in-Unclaimed.entry gives (sym c.source_of.ensures ∙ c.in-Some.is) texts.0;
    })

pub add-requires-clause-room : goal.add-requires-clause-room
add-requires-clause-room c =
    let within : 2 ≤ c.self.inside.total = subst (λ x. room_for x ≤ c.self.inside.total) c.in-Unclaimed.is
    (within_total c.self.inside.journal c.self.inside.kept.items c.self.inside.total c.self.inside.spare c.args.run c.swap.result c.self.invariant
    c.swap.ensures.was) in
    let room = c.self.invariant.room in
    omega (arith, within, room)

pub invariant_of-self : goal.invariant_of-self
invariant_of-self c =
    let journal = c.self.inside.journal.0 in
    let total = c.self.inside.total in
    let gives = subst (λ (v : List Entry × ℕ). GivesRun v.0 c.args.lane c.args.run) (sym c.self.view_is) c.requires.gives in
    let fit = subst (λ (v : List Entry × ℕ). MayMake v.0 c.args.lane None Claim) (sym c.self.view_is) c.requires.fit in
    let next = next_is journal c.args.run gives.unclaimed in
    let texts = texts_are c.self.inside.kept.items journal c.args.run c.swap.result c.in-Unclaimed.entry c.in-Unclaimed.reply
    (c.self.invariant.texts c.args.run next.1 next.0) c.swap.ensures.was c.in-Unclaimed.is in
    let within : 2 ≤ total = subst (λ x. room_for x ≤ total) c.in-Unclaimed.is
    (within_total c.self.inside.journal c.self.inside.kept.items total c.self.inside.spare c.args.run c.swap.result c.self.invariant
    c.swap.ensures.was) in
    let added = c.add.ensures.sure refl in
    given c.grows.ensures c.sources_stay.ensures c.self.inside.journal c.add.new.self c.self.inside.kept.items c.swap.new.runs.items
    total (total - 1) c.self.inside.spare c.args.lane c.args.run c.in-Some.source c.in-Unclaimed.entry c.swap.result c.self.invariant fit
    (claimed journal c.args.lane c.args.run c.in-Some.source c.in-Unclaimed.entry gives (sym c.source_of.ensures ∙ c.in-Some.is) texts.0)
    (done c.add.result added c.add.ensures.added) (done c.add.result added c.add.ensures.room)
    c.swap.ensures.was (ap room_for c.in-Unclaimed.is) c.swap.ensures.set (omega (arith, within))

pub returns : goal.returns
returns c =
    let journal = c.self.inside.journal.0 in
    let reply = Gives c.args.run c.in-Some.source in
    let gives = subst (λ (v : List Entry × ℕ). GivesRun v.0 c.args.lane c.args.run) (sym c.self.view_is) c.requires.gives in
    let next = next_is journal c.args.run gives.unclaimed in
    let texts = texts_are c.self.inside.kept.items journal c.args.run c.swap.result c.in-Unclaimed.entry c.in-Unclaimed.reply
    (c.self.invariant.texts c.args.run next.1 next.0) c.swap.ensures.was c.in-Unclaimed.is in
    let answered = claimed journal c.args.lane c.args.run c.in-Some.source c.in-Unclaimed.entry gives (sym c.source_of.ensures ∙ c.in-Some.is) texts.0 in
    let put = done c.add.result (c.add.ensures.sure refl) c.add.ensures.added in
    record {
      answered = subst (λ (v : List Entry × ℕ). IsAnswered v.0 c.args.lane None Claim (reply c.in-Unclaimed.reply)) c.self.view_is
          (answered ∙ ap (λ p. Ready (reply p)) (sym texts.1));
      put = subst (λ (v : List Entry × ℕ). c.add.new.self.0 ≡ with_entry v.0 c.args.lane None Claim (reply c.in-Unclaimed.reply)) c.self.view_is
          (put ∙ ap (λ p. with_entry journal c.args.lane None Claim (reply p)) (sym texts.1));
      place = search rules;
      legal = (invariant_of-self c).legal;
      spare = search rules;
    }
