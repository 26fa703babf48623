use Rattle.std.proofs.Common.{◌≡◌, ◌+◌, All, length}
use Rattle.hub_lock.specs.Seats.{lane, seats_made, IsSeatOf}
use Rattle.hub_lock.specs.Calls.{InOrder}
use Rattle.tests_threads.proofs.tallies.split_all.Given as goal

-- so many seats are made, in order
abbrev pub invariant-loop : goal.invariant-loop
invariant-loop g l = record {
  first : IsSeatOf l.keep l.first × (lane l.first ≡ 0);
  made : seats_made l.first ≡ l.counter;
  others : All (λ other. IsSeatOf l.keep other) l.others.items;
  order : InOrder l.others.items;
  count : length l.others.items + 1 ≡ l.counter;
}
