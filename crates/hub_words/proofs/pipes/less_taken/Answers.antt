-- each call takes off what it took
use Rattle.std.proofs.Common.{◌∙◌, ◌-◌, rules, length}
use Rattle.std.proofs.lemmas.Iterator.{YieldsList-from_slice}
use Rattle.std.proofs.lemmas.Iterator.Consumers.{fold_from_yields_List}
use Rattle.job_calls.specs.declared.entry.Entry.{Entry}
use Rattle.job_calls.specs.Pipes.{taken_by}
use Rattle.hub_words.proofs.Scans.{fold_less_bytes}
use Rattle.hub_words.proofs.pipes.less_taken.Goals as goal

pub returns : goal.returns
returns c =
    fold_from_yields_List _ (λ left (e : Entry). left - length (taken_by c.args.name.now e.call e.reply)) c.args.many _ c.fold.ensures.ran
    (YieldsList-from_slice c.args.entries.now (search rules)) (λ a x b q k. search rules)
    ∙ fold_less_bytes (λ (e : Entry). taken_by c.args.name.now e.call e.reply) c.args.many c.args.entries.now
