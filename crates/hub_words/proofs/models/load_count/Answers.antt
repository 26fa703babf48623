-- the chain counts the entries that pass
use Rattle.std.proofs.Common.{◌∙◌, rules}
use Rattle.std.proofs.lemmas.List.Sums.{length-filter}
use Rattle.std.proofs.lemmas.Iterator.{YieldsList-from_slice}
use Rattle.std.proofs.lemmas.Iterator.Consumers.{count_from_yields_List, YieldsList-from_filter}
use Rattle.job_calls.specs.declared.entry.Entry.{Entry}
use Rattle.job_calls.specs.Models.{is_loading}
use Rattle.hub_words.proofs.models.load_count.Goals as goal

pub returns : goal.returns
returns c =
    count_from_yields_List _ _ c.count.ensures.ran
    (YieldsList-from_filter _ (λ (e : Entry). is_loading e.reply) (YieldsList-from_slice c.args.journal.now (search rules)) (search rules) (λ x b q k. search rules))
    ∙ length-filter (λ (e : Entry). is_loading e.reply) c.args.journal.now
