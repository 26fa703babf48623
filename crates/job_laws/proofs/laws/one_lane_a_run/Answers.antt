use Rattle.job_laws.proofs.Lanes.{one_lane_a_run}
use Rattle.job_laws.proofs.laws.one_lane_a_run.Goals as goal

pub returns : goal.returns
returns c = one_lane_a_run
