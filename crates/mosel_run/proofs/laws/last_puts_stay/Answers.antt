-- by the lemmas
use Rattle.mosel_run.proofs.LastPuts.{last_stays, others_stay}
use Rattle.mosel_run.proofs.laws.last_puts_stay.Goals as goal

pub returns : goal.returns
returns c = record { last = last_stays; others = others_stay }
