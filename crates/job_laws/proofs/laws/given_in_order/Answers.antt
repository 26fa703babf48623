use Rattle.job_laws.proofs.Bound.{given_in_order}
use Rattle.job_laws.proofs.laws.given_in_order.Goals as goal

pub returns : goal.returns
returns c = given_in_order
