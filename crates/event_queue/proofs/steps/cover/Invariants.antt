use Rattle.std.proofs.Common.{◌≡◌, length}
use Rattle.event_queue.specs.Runs.{KeepRooms}
use Rattle.event_queue.specs.Steps.{SayTheSame}
use Rattle.event_queue.proofs.steps.cover.Given as goal

abbrev pub invariant-loop : goal.invariant-loop
invariant-loop l =
    record { rooms : KeepRooms l.runs.items; same : SayTheSame l.fn.runs.items l.runs.items; at : length l.runs.items ≡ l.counter }
