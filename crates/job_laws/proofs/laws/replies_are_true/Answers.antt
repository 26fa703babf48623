use Rattle.job_laws.proofs.Truth.{replies_true}
use Rattle.job_laws.proofs.laws.replies_are_true.Goals as goal

pub returns : goal.returns
returns c = replies_true
