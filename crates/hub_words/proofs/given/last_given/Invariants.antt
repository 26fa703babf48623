-- what the entries before this one gave last
use Rattle.std.proofs.Common.{◌≡◌, Option, take}
use Rattle.job_calls.specs.declared.entry.Entry.{Entry}
use Rattle.job_calls.specs.Runs.{last_given}
use Rattle.hub_words.specs.Given.{Computes}
use Rattle.hub_words.proofs.given.last_given.Given as goal

abbrev pub invariant-loop-entry : goal.invariant-loop-entry
invariant-loop-entry g l =
    goal.F-IsAlwaysCallable g l.give
    × ((word : Entry → Option g.row.T.Denot) → Computes g.F.Fn l.give word
    → l.last ≡ last_given word (take l.entry-index l.journal))
