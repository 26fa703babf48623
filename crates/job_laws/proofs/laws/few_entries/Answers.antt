use Rattle.job_laws.proofs.Bound.{few_entries}
use Rattle.job_laws.proofs.laws.few_entries.Goals as goal

pub returns : goal.returns
returns c = few_entries
