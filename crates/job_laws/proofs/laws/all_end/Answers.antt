use Rattle.job_laws.proofs.AllDone.{all_end}
use Rattle.job_laws.proofs.laws.all_end.Goals as goal

pub returns : goal.returns
returns c = all_end
