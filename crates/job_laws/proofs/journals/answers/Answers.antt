-- by computing
use Rattle.std.proofs.Common.{refl, arith}
use Rattle.job_laws.specs.HubExamples.{run_twice}
use Rattle.job_laws.proofs.Standing.{legal_by, opens_job}
use Rattle.job_laws.proofs.journals.answers.Goals as goal

pub returns : goal.returns
returns c = record {
  busy = legal_by run_twice (opens_job 2 (omega arith) (omega arith), refl, refl);
  full_pipe = (refl, refl);
  both_wait = (refl, refl);
}
