use Rattle.job_laws.proofs.Lanes.{no_quit}
use Rattle.job_laws.proofs.laws.no_quit.Goals as goal

pub returns : goal.returns
returns c = no_quit
