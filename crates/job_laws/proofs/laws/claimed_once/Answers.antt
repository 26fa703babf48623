use Rattle.job_laws.proofs.Lanes.{claimed_once}
use Rattle.job_laws.proofs.laws.claimed_once.Goals as goal

pub returns : goal.returns
returns c = claimed_once
