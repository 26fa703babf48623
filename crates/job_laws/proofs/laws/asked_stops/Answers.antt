use Rattle.job_laws.proofs.Lanes.{asked_stops}
use Rattle.job_laws.proofs.laws.asked_stops.Goals as goal

pub returns : goal.returns
returns c = asked_stops
