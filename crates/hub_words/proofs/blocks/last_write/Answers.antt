-- the last place that passes is one of the journal
use Rattle.std.proofs.Common.{◌≡◌, ◌<◌, rules, sym, subst, length}
use Rattle.std.specs.Prelude.{IfSome}
use Rattle.job_calls.specs.declared.entry.Entry.{Entry}
use Rattle.job_calls.specs.Blocks.{writes, last_write}
use Rattle.hub_words.proofs.Prefixes.{last_within}
use Rattle.hub_words.proofs.blocks.last_write.Goals as goal

pub returns-clause-within : goal.returns-clause-within
returns-clause-within c =
    let place : c.last_place.result ≡ last_write c.args.name.now c.args.journal.now = search rules in
    subst (λ o. IfSome o (λ place. place < length c.args.journal.now)) (sym place)
    (last_within (λ (e : Entry). writes c.args.name.now e.call e.reply) c.args.journal.now)
