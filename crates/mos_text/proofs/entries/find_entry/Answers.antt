use Rattle.std.proofs.Common.{◌∙◌, sym, rules}
use Rattle.mos_text.proofs.EntryLemmas.{find-here, find-later}
use Rattle.mos_text.proofs.entries.find_entry.Goals as goal

pub returns-then-is : goal.returns-then-is
returns-then-is g c =
    sym (find-here c.args.name.now c.args.entries.now c.loop-entry.entry-index c.entry-item.result c.loop-entry-test.true c.entry-item.is (c.is.ensures.0 (search rules)))
    ∙ c.loop-entry.invariant

pub loop-entry-preserved : goal.loop-entry-preserved
loop-entry-preserved g c =
    sym (find-later c.args.name.now c.args.entries.now c.loop-entry.entry-index c.entry-item.result c.loop-entry-test.true c.entry-item.is (λ same. search rules))
    ∙ c.loop-entry.invariant
