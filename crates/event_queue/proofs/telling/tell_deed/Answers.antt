use Rattle.std.proofs.Common.{ap}
use Rattle.event_queue.specs.Deeds.{subject}
use Rattle.event_queue.proofs.telling.tell_deed.Goals as goal

pub start-requires-clause-covers : goal.start-requires-clause-covers
start-requires-clause-covers c = c.requires.ready.covers c.in-Starts.run' (ap subject c.in-Starts.is)

pub end-requires-clause-covers : goal.end-requires-clause-covers
end-requires-clause-covers c = c.requires.ready.covers c.in-Ends.run' (ap subject c.in-Ends.is)
