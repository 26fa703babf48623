use Rattle.job_laws.proofs.Growing.{legal_more}
use Rattle.job_laws.proofs.laws.grows.Goals as goal

pub returns : goal.returns
returns c = legal_more
