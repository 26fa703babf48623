use Rattle.job_laws.proofs.Lanes.{stays_asked}
use Rattle.job_laws.proofs.laws.stays_asked.Goals as goal

pub returns : goal.returns
returns c = stays_asked
