-- what this entry gives counts after what those before it gave
use Rattle.std.proofs.Common.{◌∙◌, sym, ap, arith, take, rules}
use Rattle.job_calls.specs.Runs.{last_of, last_given}
use Rattle.hub_words.proofs.Prefixes.{list_given-take}
use Rattle.hub_words.proofs.Scans.{or_later}
use Rattle.hub_words.proofs.given.last_given.Goals as goal

pub loop-entry-preserved : goal.loop-entry-preserved
loop-entry-preserved g c = (
  search rules,
  λ word says.
      c.or-last.ensures
      ∙ or_later c.loop-entry.last c.give.result
      ∙ ap (λ last. last_of last c.give.result) (c.loop-entry.invariant.1 word says)
      ∙ ap (λ given. last_of (last_given word (take c.loop-entry.entry-index c.args.journal.now)) given) (says c.entry-item.result c.give.result (search rules))
      ∙ sym (list_given-take word c.args.journal.now c.loop-entry.entry-index _ c.entry-item.result c.loop-entry-test.true c.entry-item.is (omega arith)),
)
