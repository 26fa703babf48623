use Rattle.std.proofs.Common.{◌≡◌, ◌∙◌, ap, rules, arith}
use Rattle.hub_lock.specs.Seats.{KeepState, SeatState}
use Rattle.hub_lock.proofs.Parts.{splits}
use Rattle.hub_lock.proofs.keep.Keep.split.Goals as goal

pub split_seat-raw-requires : goal.split_seat-raw-requires
split_seat-raw-requires g c =
    let seat = c.seat.inside in
    let rests = c.seat.invariant in
    let few = c.self.invariant in
    let room = c.requires.room in
    let lanes : c.self.inside.lanes ≡ c.args.self.now.lanes = ap (λ (k : KeepState). k.lanes) c.self.view_is in
    let made : seat.made ≡ c.args.seat.now.made = ap (λ (s : SeatState _). s.made) c.seat.view_is in
    let is = rests.made_is in
    (search rules, search rules, splits _ _ _ _ seat.raw.me.0 rests.idle (rests.lane_is ∙ ap (λ (s : SeatState _). s.lane) c.seat.view_is ∙ c.requires.first) (omega arith))
