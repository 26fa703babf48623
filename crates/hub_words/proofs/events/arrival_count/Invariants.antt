-- as many as the entries before this one made
use Rattle.std.proofs.Common.{◌≡◌, ◌≤◌, length, take}
use Rattle.job_calls.specs.Events.{arrivals}
use Rattle.hub_words.proofs.events.arrival_count.Given as goal

abbrev pub invariant-loop-i : goal.invariant-loop-i
invariant-loop-i l = (l.count ≡ length (arrivals l.run_number (take l.i l.journal))) × (l.count ≤ l.i)
