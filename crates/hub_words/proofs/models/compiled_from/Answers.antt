-- what this entry gives counts after what those before it gave
use Rattle.std.proofs.Common.{◌∙◌, sym, ap, arith, take}
use Rattle.std.specs.Prelude.{option_copied}
use Rattle.job_calls.specs.declared.entry.Entry.{Entry}
use Rattle.job_calls.specs.Runs.{last_of}
use Rattle.job_calls.specs.Models.{compiled_to, compiled_from}
use Rattle.hub_words.proofs.Prefixes.{list_given-take, or-copied}
use Rattle.hub_words.proofs.models.compiled_from.Goals as goal

pub loop-e-preserved : goal.loop-e-preserved
loop-e-preserved c =
    ap option_copied c.or-found.ensures
    ∙ or-copied c.loop-e.found c.compiled_to.result
    ∙ ap (λ found. last_of found (option_copied c.compiled_to.result)) c.loop-e.invariant
    ∙ ap (λ given. last_of (compiled_from c.args.file.now (take c.loop-e.e-index c.args.journal.now)) given) c.compiled_to.ensures
    ∙ sym (list_given-take (λ (e : Entry). compiled_to c.args.file.now e.call e.reply) c.args.journal.now c.loop-e.e-index _ c.e-item.result c.loop-e-test.true c.e-item.is (omega arith))
