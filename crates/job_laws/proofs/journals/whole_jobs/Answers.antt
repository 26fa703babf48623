-- by computing
use Rattle.std.proofs.Common.{refl, arith}
use Rattle.job_laws.specs.HubExamples.{waits_for_child, no_lane_is_free, runs_again, reads_last_write, takes_whole, reader_stops}
use Rattle.job_laws.proofs.Standing.{legal_by, opens_job}
use Rattle.job_laws.proofs.journals.whole_jobs.Goals as goal

pub returns : goal.returns
returns c = record {
  waits = legal_by waits_for_child (opens_job 2 (omega arith) (omega arith), refl, refl);
  no_lane = legal_by no_lane_is_free (opens_job 1 (omega arith) (omega arith), refl, refl);
  again = legal_by runs_again (opens_job 2 (omega arith) (omega arith), refl, refl);
  blocks = legal_by reads_last_write (opens_job 2 (omega arith) (omega arith), refl, refl);
  pipe = legal_by takes_whole (opens_job 2 (omega arith) (omega arith), refl, refl);
  stopped = legal_by reader_stops (opens_job 2 (omega arith) (omega arith), refl, refl);
}
