use Rattle.std.proofs.Common.{◌≡◌, ◌+◌, ◌∙◌, All, length, sym, subst, rules}
use Rattle.std.proofs.lemmas.List.Elements.{All-push}
use Rattle.hub_lock.specs.Seats.{SeatState, IsSeatOf}
use Rattle.hub_lock.specs.Calls.{InOrder}
use Rattle.tests_threads.proofs.Orders.{InOrder-push}
use Rattle.tests_threads.proofs.tallies.split_all.Goals as goal

pub loop-preserved : goal.loop-preserved
loop-preserved g c =
    let old = c.loop.others.items in
    let next = c.act.new.seat in
    let kept = c.loop.invariant in
    let items = c.in_ok-push.ensures.items in
    let made = kept.made in
    let count = kept.count in
    let lane : next.lane ≡ length old + 1 = c.act.ensures.same.lane ∙ c.in_ok-next.ensures.new_lane ∙ made ∙ sym count in record {
      first = search rules;
      made = search rules;
      others = subst (All (λ (s : SeatState _). IsSeatOf c.args.keep.now s)) (sym items) (All-push (λ (s : SeatState _). IsSeatOf c.args.keep.now s) old next kept.others (c.act.ensures.same.lock ∙ c.in_ok-next.ensures.new));
      order = subst InOrder (sym items) (InOrder-push old next kept.order lane);
      count = search rules;
    }
