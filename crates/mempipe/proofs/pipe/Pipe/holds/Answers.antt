use Rattle.std.proofs.Common.{◌∙◌, ap, sym}
use Rattle.job_calls.specs.Entries.{is_run}
use Rattle.mempipe.proofs.pipe.Pipe.holds.Goals as goal

pub returns : goal.returns
returns c = λ journal stands.
    c.is_run.ensures ∙ ap (is_run c.args.run) (c.holder.ensures journal stands) ∙ sym ((stands.orderly c.args.name.now).holds c.args.way c.args.run)
