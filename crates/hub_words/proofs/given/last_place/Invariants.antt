-- the last place that passed before this one
use Rattle.std.proofs.Common.{◌≡◌, Bool, take}
use Rattle.job_calls.specs.declared.entry.Entry.{Entry}
use Rattle.job_calls.specs.Blocks.{last_place}
use Rattle.hub_words.specs.Given.{Computes}
use Rattle.hub_words.proofs.given.last_place.Given as goal

abbrev pub invariant-loop-i : goal.invariant-loop-i
invariant-loop-i g l =
    goal.F-IsAlwaysCallable g l.passes
    × ((test : Entry → Bool) → Computes g.F.Fn l.passes test
    → l.last ≡ last_place test (take l.i l.journal))
