use Rattle.std.proofs.Common.{ap, ◌∙◌, rules}
use Rattle.std.proofs.lemmas.Iterator.Adapters.{YieldsList-from_vec}
use Rattle.std.proofs.lemmas.Iterator.Consumers.{YieldsList-turn, YieldsList-end}
use Rattle.hub_lock.specs.Seats.{SeatState}
use Rattle.hub_lock.proofs.Ends.{ends, next_lane, all_joined}
use Rattle.hub_lock.proofs.keep.Keep.close.Goals as goal

pub join-requires-clause-next : goal.join-requires-clause-next
join-requires-clause-next g c =
    let turn = YieldsList-turn (YieldsList-from_vec {s = c.into_iter-other-iterator.result} c.args.others.items (search rules) (search rules)) c.loop-other.yielded c.loop-other.other-iterator c.loop-other.yielded_by c.next.result c.next.new.self c.in-Some.other c.in-Some.is c.next.ensures.steps in
    c.other.invariant.lane_is ∙ ap (λ (s : SeatState _). s.lane) c.other.view_is
    ∙ next_lane c.args.others.items c.loop-other.yielded c.in-Some.other c.loop-other.raw.me.0.joined c.requires.lanes.1 c.loop-other.invariant.joined turn.0 turn.1

pub end-story-requires-clause-all : goal.end-story-requires-clause-all
end-story-requires-clause-all g c =
    let all = YieldsList-end (YieldsList-from_vec {s = c.into_iter-other-iterator.result} c.args.others.items (search rules) (search rules)) c.loop-other.yielded c.loop-other.other-iterator c.loop-other.yielded_by c.next.result c.next.new.self c.in-None.is c.next.ensures.steps in
    all_joined c.args.others.items c.loop-other.yielded c.loop-other.raw.me.0.joined c.loop-other.raw.me.0.made c.args.seat.made c.loop-other.invariant.joined all.1 c.requires.all
    (c.loop-other.invariant.made ∙ c.seat.invariant.made_is ∙ ap (λ (s : SeatState _). s.made) c.seat.view_is)

pub returns-clause-journal : goal.returns-clause-journal
returns-clause-journal g c =
    let all = YieldsList-end (YieldsList-from_vec {s = c.into_iter-other-iterator.result} c.args.others.items (search rules) (search rules)) c.loop-other.yielded c.loop-other.other-iterator c.loop-other.yielded_by c.next.result c.next.new.self c.in-None.is c.next.ensures.steps in
    let kept = c.loop-other.invariant in
    let rests = c.seat.invariant in
    let is = c.seat.view_is in
    ends g.S.Story.lane_of g.S.Story.sound c.args.seat c.args.others.items c.loop-other.yielded c.loop-other.raw.me.0 _ c.end-story.ensures
    (kept.seen ∙ ap (λ (s : SeatState _). s.seen) is) (kept.marks ∙ ap (λ (s : SeatState _). s.marks) is)
    (kept.lane ∙ rests.lane_is ∙ ap (λ (s : SeatState _). s.lane) is) (kept.made ∙ rests.made_is ∙ ap (λ (s : SeatState _). s.made) is) kept.joined all.0 c.requires.lanes.1 c.requires.all
