use Rattle.job_laws.proofs.Fit.{runs_fit}
use Rattle.job_laws.proofs.laws.runs_fit.Goals as goal

pub returns : goal.returns
returns c = runs_fit
