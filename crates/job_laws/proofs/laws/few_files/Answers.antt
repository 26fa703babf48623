use Rattle.job_laws.proofs.Bound.{few_files}
use Rattle.job_laws.proofs.laws.few_files.Goals as goal

pub returns : goal.returns
returns c = few_files
