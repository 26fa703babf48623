-- the chain is the fold over what the run's entries say
use Rattle.std.proofs.Common.{◌∙◌, rules, false, sym, ap}
use Rattle.std.specs.Prelude.{◌&&◌, nat_eq, filter, fold}
use Rattle.std.proofs.lemmas.Iterator.{YieldsList-from_slice}
use Rattle.std.proofs.lemmas.Iterator.Consumers.{fold_from_yields_List, YieldsList-from_filter}
use Rattle.std.proofs.lemmas.List.Folds.{fold-map}
use Rattle.std.specs.Iterator.Adapters.{filter_callee}
use Rattle.job_calls.specs.declared.entry.Entry.{Entry}
use Rattle.job_calls.specs.Fitting.{holds_after}
use Rattle.job_calls.specs.Entries.{is_run, own_entries}
use Rattle.hub_words.proofs.Scans.{filter_twice}
use Rattle.hub_words.proofs.fitting.holds.Goals as goal

pub returns : goal.returns
returns c =
    fold_from_yields_List _ (λ held (e : Entry). holds_after c.args.way c.args.name.now held (e.call, e.reply)) false _ c.fold.ensures.ran
    (YieldsList-from_filter _ (λ (e : Entry). nat_eq e.lane c.args.lane && is_run c.args.run e.run) {f = filter_callee c.filter.result} (YieldsList-from_slice c.args.journal.now (search rules)) (search rules) (λ x b q k. search rules))
    (λ a x b q k. search rules)
    ∙ ap (fold (λ held (e : Entry). holds_after c.args.way c.args.name.now held (e.call, e.reply)) false) (sym (filter_twice (λ (e : Entry). is_run c.args.run e.run) (λ (e : Entry). nat_eq e.lane c.args.lane) c.args.journal.now))
    ∙ sym (fold-map (holds_after c.args.way c.args.name.now) (λ (e : Entry). (e.call, e.reply)) false (filter (λ e. is_run c.args.run e.run) (own_entries c.args.lane c.args.journal.now)))
