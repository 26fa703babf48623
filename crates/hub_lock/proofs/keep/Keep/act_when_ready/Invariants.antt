use Rattle.std.proofs.Common.{◌≡◌}
use Rattle.hub_lock.specs.Seats.{IsSeatOf}
use Rattle.hub_lock.proofs.Waiting.{HasWaited}
use Rattle.hub_lock.proofs.keep.Keep.act_when_ready.Given as goal

-- the same call is to be made, and the seat has seen other lanes' entries alone since
abbrev pub invariant-loop : goal.invariant-loop
invariant-loop g l = record {
  call : l.call ≡ l.fn.call;
  own : IsSeatOf l.self l.seat;
  waited : HasWaited g.S.Story l.fn.seat l.seat;
}
