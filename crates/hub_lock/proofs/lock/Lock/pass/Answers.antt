use Rattle.std.proofs.Common.{rules}
use Rattle.hub_lock.proofs.Steps.{passes}
use Rattle.hub_lock.proofs.lock.Lock.pass.Goals as goal

pub fetch_add-requires : goal.fetch_add-requires
fetch_add-requires g c =
    let slot = c.requires.slot in
    (search rules, search rules, passes g.S.Story.list g.S.Story.lane_of g.S.Story.sound _ _ c.args.raw.now.me slot.1.0.0 slot.0 slot.1.0.1 slot.1.1 slot.2)
