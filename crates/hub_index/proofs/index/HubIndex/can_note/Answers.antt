use Rattle.hub_index.proofs.Light.{can_take}
use Rattle.hub_index.proofs.index.HubIndex.can_note.Goals as goal

pub returns : goal.returns
returns c = λ journal stands legal light.
    can_take c.grows.ensures c.given_in_order.ensures c.one_lane_a_run.ensures c.runs_have_sources.ensures c.args.self.now journal c.args.entry.now stands legal light
    c.can_note.ensures c.can_end.ensures c.can_end-2.ensures c.can_note-2.ensures
