use Rattle.std.proofs.Common.{None, sym, ap, ◌∙◌, is_some}
use Rattle.mos_sorts.proofs.Latest.{copied-some, latest-found}
use Rattle.mos_sorts.proofs.entries.Entries.has.Goals as goal

pub returns : goal.returns
returns c = c.is_some.ensures ∙ sym (copied-some c.latest.result) ∙ ap is_some c.latest.ensures ∙ latest-found c.args.name.now None c.args.self.now
