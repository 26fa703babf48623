-- what this entry gives counts after what those before it gave
use Rattle.std.proofs.Common.{◌∙◌, sym, ap, arith, take}
use Rattle.job_calls.specs.Runs.{last_of, last_given, source_started}
use Rattle.job_calls.specs.Moments.{moments}
use Rattle.hub_words.proofs.Prefixes.{given-take}
use Rattle.hub_words.proofs.Scans.{or_later}
use Rattle.hub_words.proofs.runs.source_of_start.Goals as goal

pub loop-i-preserved : goal.loop-i-preserved
loop-i-preserved c =
    c.or-found.ensures
    ∙ or_later c.loop-i.found c.source_started.result
    ∙ ap (λ found. last_of found c.source_started.result) c.loop-i.invariant
    ∙ ap (λ given. last_of (last_given (source_started c.args.run_number) (moments (take c.loop-i.i c.args.journal.now))) given) c.source_started.ensures
    ∙ sym (given-take (source_started c.args.run_number) c.args.journal.now c.loop-i.i _ c.index-journal-i.result c.loop-i-test.true c.index-journal-i.is (omega arith))
