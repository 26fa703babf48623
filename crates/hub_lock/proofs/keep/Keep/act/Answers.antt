use Rattle.std.proofs.Common.{◌≡◌, ℕ, [], sym, subst}
use Rattle.hub_lock.specs.LaneEntries.{entries_of, StartsWith}
use Rattle.hub_lock.specs.Seats.{SeatState, first_entry, own_list}
use Rattle.hub_lock.specs.Calls.{HasActed, HasHeld}
use Rattle.hub_lock.proofs.Turns.{allowed_with}
use Rattle.hub_lock.proofs.Acting.{state_of, mark_of, marks_held, has_held, marks_acted, has_acted}
use Rattle.hub_lock.proofs.keep.Keep.act.Goals as goal

pub step-requires : goal.step-requires
step-requires g c =
    let story = g.S.Story in
    let seat = c.seat.inside in
    let rests = c.seat.invariant in
    let turn = c.enter-story.ensures.turn in
    allowed_with story.lane_of (λ first own. story.allowed first own seat.lane c.args.call) _ seat.raw.me.0.seen turn.between seat.lane
    turn.stands (subst (λ (n : ℕ). entries_of story.lane_of n turn.between ≡ []) rests.lane_is turn.others) rests.begun
    (subst (λ (s : SeatState _). story.allowed (first_entry s) (own_list story s) s.lane c.args.call) (sym c.seat.view_is) c.requires.allowed)

pub leave_with_entry-requires-clause-mark : goal.leave_with_entry-requires-clause-mark
leave_with_entry-requires-clause-mark g c = mark_of g.S.Story.list g.S.Story.lane_of g.S.Story.sound c.seat.inside.raw c.enter-story.new.raw c.enter-story.result c.enter-story.ensures.turn

pub returns-in-Ok-clause-marks : goal.returns-in-Ok-clause-marks
returns-in-Ok-clause-marks g c =
    let seat = c.seat.inside in
    let entry = c.in-Ok.ensures.answered in
    let marks = marks_acted g.S.Story seat.lane seat.made seat.raw c.enter-story.new.raw c.leave_with_entry.new.raw c.enter-story.result c.seat.invariant c.enter-story.ensures.turn c.step.new.self entry.0 entry.1 entry.2 c.leave_with_entry.ensures.view in
    subst (λ (s : SeatState _). StartsWith c.leave_with_entry.new.raw.me.0.marks s.marks) c.seat.view_is marks

pub returns-in-Ok-clause-acted : goal.returns-in-Ok-clause-acted
returns-in-Ok-clause-acted g c =
    let seat = c.seat.inside in
    let entry = c.in-Ok.ensures.answered in
    subst (λ (s : SeatState _). HasActed g.S.Story s (state_of c.leave_with_entry.new.raw.table_id seat.lane seat.made c.leave_with_entry.new.raw.me) c.args.call c.in-Ok.acted) c.seat.view_is
    (has_acted g.S.Story seat.lane seat.made seat.raw c.enter-story.new.raw c.leave_with_entry.new.raw c.enter-story.result c.seat.invariant c.enter-story.ensures.turn c.step.new.self entry.0 entry.1 entry.2
    seat.raw.table_id c.leave_with_entry.new.raw.table_id c.args.call c.in-Ok.acted c.leave_with_entry.ensures.view entry.3 c.in-Ok.ensures.sound.0)

pub returns-in-Err-clause-marks : goal.returns-in-Err-clause-marks
returns-in-Err-clause-marks g c =
    let seat = c.seat.inside in
    let marks = marks_held g.S.Story seat.lane seat.made seat.raw c.enter-story.new.raw c.leave.new.raw c.enter-story.result c.seat.invariant c.enter-story.ensures.turn c.leave.ensures.view in
    subst (λ (s : SeatState _). StartsWith c.leave.new.raw.me.0.marks s.marks) c.seat.view_is marks

pub returns-in-Err-clause-held : goal.returns-in-Err-clause-held
returns-in-Err-clause-held g c =
    let seat = c.seat.inside in
    subst (λ (s : SeatState _). HasHeld g.S.Story s (state_of c.leave.new.raw.table_id seat.lane seat.made c.leave.new.raw.me) c.args.call c.entries-seen.result c.in-Err.held) c.seat.view_is
    (has_held g.S.Story seat.lane seat.made seat.raw c.enter-story.new.raw c.leave.new.raw c.enter-story.result c.seat.invariant c.enter-story.ensures.turn
    seat.raw.table_id c.leave.new.raw.table_id c.args.call c.entries-seen.result c.in-Err.held c.step.new.self c.leave.ensures.view c.in-Err.ensures.refused.0 c.entries-seen.ensures.count c.in-Err.ensures.refused.1)
