use Rattle.std.proofs.Common.{◌∙◌, ap}
use mathlib.Core.Option.{some}
use Rattle.hub_lock.proofs.Parts.{closes_some, closes_with}
use Rattle.hub_lock.proofs.lock.Lock.end.Goals as goal

pub unreachable-requires : goal.unreachable-requires
unreachable-requires g c =
    closes_some g.S.Story.list g.S.Story.lane_of g.S.Story.sound _ c.args.raw.me.0 _ _ c.take-slot.result c.requires.first.0 c.requires.first.1 c.requires.all c.close_with-closed.ensures.values.2 c.take-slot.ensures.value c.in_default.is

pub returns : goal.returns
returns g c =
    closes_with g.S.Story.list g.S.Story.lane_of g.S.Story.sound _ c.args.raw.me.0 _ _ c.in-Some.story c.requires.first.0 c.requires.first.1 c.requires.all c.close_with-closed.ensures.values.2
    (c.take-slot.ensures.value ∙ ap some c.in-Some.is)
