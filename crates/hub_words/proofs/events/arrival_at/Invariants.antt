-- so many are left after those that the entries before this one made
use Rattle.std.proofs.Common.{◌≡◌, ◌+◌, length, take}
use Rattle.job_calls.specs.Events.{arrivals}
use Rattle.hub_words.proofs.events.arrival_at.Given as goal

abbrev pub invariant-loop-i : goal.invariant-loop-i
invariant-loop-i l = l.left + length (arrivals l.run_number (take l.i l.journal)) ≡ l.number
