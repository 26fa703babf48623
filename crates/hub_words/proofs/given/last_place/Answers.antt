-- the place of this entry counts, where it passes, after those before it
use Rattle.std.proofs.Common.{◌∙◌, Some, None, sym, ap, arith, take, rules}
use Rattle.std.specs.Prelude.{if◌then◌else◌}
use Rattle.job_calls.specs.Runs.{last_of}
use Rattle.job_calls.specs.Blocks.{last_place}
use Rattle.hub_words.proofs.Prefixes.{place-take}
use Rattle.hub_words.proofs.Scans.{or_later, then_if}
use Rattle.hub_words.proofs.given.last_place.Goals as goal

pub loop-i-preserved : goal.loop-i-preserved
loop-i-preserved g c = (
  search rules,
  λ test says.
      c.or-last.ensures
      ∙ or_later c.loop-i.last c.then_some.result
      ∙ ap (λ last. last_of last c.then_some.result) (c.loop-i.invariant.1 test says)
      ∙ ap (λ given. last_of (last_place test (take c.loop-i.i c.args.journal.now)) given)
      (c.then_some.ensures ∙ then_if c.passes.result c.loop-i.i
      ∙ ap (λ b. if b then Some c.loop-i.i else None) (says c.index-journal-i.result c.passes.result (search rules)))
      ∙ sym (place-take test c.args.journal.now c.loop-i.i _ c.index-journal-i.result c.loop-i-test.true c.index-journal-i.is (omega arith)),
)
