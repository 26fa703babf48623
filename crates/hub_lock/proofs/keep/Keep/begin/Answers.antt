use Rattle.std.proofs.Common.{rules}
use Rattle.hub_lock.proofs.Parts.{starts_with}
use Rattle.hub_lock.proofs.Acting.{rests_first}
use Rattle.hub_lock.proofs.keep.Keep.begin.Goals as goal

pub new-requires : goal.new-requires
new-requires g c =
    starts_with g.S.Story.list g.S.Story.lane_of g.S.Story.sound c.args.story c.of-about.result.value c.push.new.self.items c.from-count.result
    (search rules) (search rules) (search rules) (search rules) c.entries.ensures.sound c.requires.begun c.requires.first_lane

pub invariant_of-seat : goal.invariant_of-seat
invariant_of-seat g c = rests_first g.S.Story.list g.S.Story.lane_of c.args.story c.of-about.result.value c.in-Ok.raw.me (search rules) (search rules) c.requires.begun c.requires.first_lane
