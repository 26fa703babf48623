use Rattle.job_laws.proofs.Lanes.{claimed_before}
use Rattle.job_laws.proofs.laws.claimed_before.Goals as goal

pub returns : goal.returns
returns c = claimed_before
