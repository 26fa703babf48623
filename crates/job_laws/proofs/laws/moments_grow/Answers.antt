use Rattle.job_laws.proofs.Growing.{moments_from-append}
use Rattle.job_laws.proofs.laws.moments_grow.Goals as goal

pub returns : goal.returns
returns c = moments_from-append
