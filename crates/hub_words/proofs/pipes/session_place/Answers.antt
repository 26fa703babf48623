-- the last place that passes is one of the journal
use Rattle.std.proofs.Common.{◌≡◌, ◌<◌, rules, sym, subst, length}
use Rattle.std.specs.Prelude.{IfSome}
use Rattle.job_calls.specs.declared.call.Way.TheVariants.{Reads}
use Rattle.job_calls.specs.Pipes.{opens, session}
use Rattle.hub_words.proofs.Prefixes.{last_within}
use Rattle.hub_words.proofs.pipes.session_place.Goals as goal

pub returns-clause-within : goal.returns-clause-within
returns-clause-within c =
    let place : c.last_place.result ≡ session c.args.name.now c.args.journal.now = search rules in
    subst (λ o. IfSome o (λ place. place < length c.args.journal.now)) (sym place)
    (last_within (opens Reads c.args.name.now) c.args.journal.now)
