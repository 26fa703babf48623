use Rattle.job_laws.proofs.Taking.{in_order, taken_once}
use Rattle.job_laws.proofs.Ending.{piped_part, piped_whole}
use Rattle.job_laws.proofs.Lanes.{stops_when_asked}
use Rattle.job_laws.proofs.laws.legal_keeps_laws.Goals as goal

pub returns : goal.returns
returns c = λ journal h. record {
  takes_in_order = in_order journal h;
  takes_once = taken_once journal h;
  pipes_in_order = piped_part journal h;
  pipes_whole = piped_whole journal h;
  stops_when_asked = stops_when_asked journal h;
}
