-- each call takes its weight off
use Rattle.std.proofs.Common.{◌∙◌, ◌-◌, rules}
use Rattle.std.proofs.lemmas.Iterator.{YieldsList-from_slice}
use Rattle.std.proofs.lemmas.Iterator.Consumers.{fold_from_yields_List}
use Rattle.job_calls.specs.declared.entry.Entry.{Entry}
use Rattle.job_calls.specs.Weights.{call_weight}
use Rattle.hub_words.proofs.Scans.{fold_less}
use Rattle.hub_words.proofs.weights.less_calls.Goals as goal

pub returns : goal.returns
returns c =
    fold_from_yields_List _ (λ left (e : Entry). left - call_weight e.call) c.args.room _ c.fold.ensures.ran
    (YieldsList-from_slice c.args.journal.now (search rules)) (λ a x b q k. search rules)
    ∙ fold_less (λ (e : Entry). call_weight e.call) c.args.room c.args.journal.now
