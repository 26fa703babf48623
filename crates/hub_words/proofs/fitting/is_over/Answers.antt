-- the chain looks at what the run's entries say
use Rattle.std.proofs.Common.{◌∙◌, rules, sym, ap}
use Rattle.std.specs.Prelude.{◌&&◌, nat_eq, filter}
use Rattle.std.proofs.lemmas.Iterator.{YieldsList-from_slice}
use Rattle.std.proofs.lemmas.Iterator.Consumers.{YieldsList-from_filter}
use Rattle.std.proofs.lemmas.Iterator.Search.{any_from_yields_List}
use Rattle.std.specs.List.{list_any}
use Rattle.std.specs.Iterator.Adapters.{filter_callee}
use Rattle.job_calls.specs.declared.entry.Entry.{Entry}
use Rattle.job_calls.specs.Entries.{is_run, is_last, own_entries}
use Rattle.hub_words.proofs.Scans.{any-map, filter_twice}
use Rattle.hub_words.proofs.fitting.is_over.Goals as goal

pub returns : goal.returns
returns c =
    any_from_yields_List (λ (e : Entry). is_last e.reply) _ _ _ c.any.ensures.ran
    (YieldsList-from_filter _ (λ (e : Entry). nat_eq e.lane c.args.lane && is_run c.args.run e.run) {f = filter_callee c.filter.result} (YieldsList-from_slice c.args.journal.now (search rules)) (search rules) (λ x b q k. search rules))
    (λ x b q k. search rules)
    ∙ ap (list_any (λ (e : Entry). is_last e.reply)) (sym (filter_twice (λ (e : Entry). is_run c.args.run e.run) (λ (e : Entry). nat_eq e.lane c.args.lane) c.args.journal.now))
    ∙ sym (any-map (λ pair. is_last pair.1) (λ (e : Entry). (e.call, e.reply)) (filter (λ e. is_run c.args.run e.run) (own_entries c.args.lane c.args.journal.now)))
