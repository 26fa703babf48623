use Rattle.job_laws.proofs.Fit.{answers_fit}
use Rattle.job_laws.proofs.laws.answers_fit.Goals as goal

pub returns : goal.returns
returns c = answers_fit
