-- what this entry gives counts after what those before it gave
use Rattle.std.proofs.Common.{◌∙◌, sym, ap, arith, take}
use Rattle.std.specs.Prelude.{option_copied, option_map}
use Rattle.job_calls.specs.declared.entry.Entry.{Entry}
use Rattle.job_calls.specs.Runs.{last_of, last_given, start_of_run}
use Rattle.hub_words.proofs.Prefixes.{list_given-take, or-copied}
use Rattle.hub_words.proofs.runs.params_of_start.Goals as goal

pub loop-e-preserved : goal.loop-e-preserved
loop-e-preserved c =
    ap option_copied c.or-found.ensures
    ∙ or-copied c.loop-e.found c.params_started.result
    ∙ ap (λ found. last_of found (option_copied c.params_started.result)) c.loop-e.invariant
    ∙ ap (λ given. last_of (last_given (λ (e : Entry). option_map (λ start. start.params) (start_of_run c.args.run_number e)) (take c.loop-e.e-index c.args.journal.now)) given) c.params_started.ensures
    ∙ sym (list_given-take (λ (e : Entry). option_map (λ start. start.params) (start_of_run c.args.run_number e)) c.args.journal.now c.loop-e.e-index _ c.e-item.result c.loop-e-test.true c.e-item.is (omega arith))
