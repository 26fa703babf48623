use Rattle.std.proofs.Common.{◌≡◌}
use Rattle.hub_lock.specs.Seats.{lane, seats_made, IsSeatOf}
use Rattle.tests_threads.specs.Relays.{IsReady}
use Rattle.tests_threads.proofs.relays.run.Given as goal

-- each call so far was answered
abbrev pub invariant-loop-number : goal.invariant-loop-number
invariant-loop-number g l = record {
  own : IsSeatOf l.keep l.seat;
  same : (lane l.seat ≡ lane l.initial.seat) × (seats_made l.seat ≡ seats_made l.initial.seat);
  ready : IsReady l.seat l.number;
}
