-- an entry that asks the run is found, and no other
use Rattle.std.proofs.Common.{◌∙◌, sym, arith}
use Rattle.job_calls.specs.Models.{asks}
use Rattle.hub_words.proofs.Prefixes.{one_passes, none_more}
use Rattle.hub_words.proofs.models.was_asked.Goals as goal

pub returns-then-asks : goal.returns-then-asks
returns-then-asks c =
    sym (one_passes (asks c.args.run_number) c.args.journal.now c.loop-i.i c.index-journal-i.result c.loop-i-test.true c.index-journal-i.is
    (sym c.asks.ensures ∙ c.if-asks.true))

pub loop-i-preserved : goal.loop-i-preserved
loop-i-preserved c =
    none_more (asks c.args.run_number) c.args.journal.now c.loop-i.i _ c.index-journal-i.result c.loop-i-test.true c.index-journal-i.is (omega arith) c.loop-i.invariant
    (sym c.asks.ensures ∙ c.if-asks.false)
