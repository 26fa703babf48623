use Rattle.std.proofs.Common.{◌≡◌}
use Rattle.hub_lock.specs.Seats.{lane, seats_made, IsSeatOf}
use Rattle.tests_threads.proofs.tallies.put_ones.Given as goal

abbrev pub invariant-loop : goal.invariant-loop
invariant-loop g l = IsSeatOf l.keep l.seat × (lane l.seat ≡ lane l.initial.seat) × (seats_made l.seat ≡ seats_made l.initial.seat)
