use Rattle.std.proofs.Common.{refl, subst, sym, ap, ◌∙◌, is_some}
use Rattle.std.proofs.lemmas.Map.Text.{hash_map_updates_text}
use Rattle.indexmap.specs.IndexMap.{get_by_text}
use Rattle.mempipe.specs.declared.state.State.{State}
use Rattle.mempipe.specs.Bytes.{CanHold}
use Rattle.mempipe.proofs.Changes.{set_same, untaken_known}
use Rattle.mempipe.proofs.pipes.Pipes.make_room.Goals as goal

pub returns-in-Some-clause-same : goal.returns-in-Some-clause-same
returns-in-Some-clause-same c =
    let known = ap (λ n. is_some (get_by_text c.args.self.now.pipes n)) c.as_str.ensures.value ∙ c.requires in
    let after : State = record { ends = c.in-Some.state.now.ends; untaken = c.make_room.new.self } in
    let sets = hash_map_updates_text c.as_str.result.now c.args.self.now.pipes (c.get_mut.follows.lender after) _ ((c.get_mut.follows.holds after).3 known) in
    set_same c.args.self.now (record { pipes = c.get_mut.follows.lender after }) c.as_str.result.now c.in-Some.state.now after
    (record { was = sym c.in-Some.ensures.value; is = sets })
    (record { ends = refl; bytes = c.make_room.ensures.same; here = c.make_room.ensures.here; room = c.make_room.ensures.kept })

pub returns-in-Some-clause-sure : goal.returns-in-Some-clause-sure
returns-in-Some-clause-sure c = λ room.
    let at = ap (get_by_text c.args.self.now.pipes) (sym c.as_str.ensures.value) ∙ sym c.in-Some.ensures.value in
    c.make_room.ensures.sure (subst CanHold (untaken_known c.args.self.now c.args.name.now c.in-Some.state.now at) room)
