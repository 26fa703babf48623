-- by computing
use Rattle.std.proofs.Common.{refl, arith}
use Rattle.job_laws.specs.RowExamples.{files_and_nothing, model_goes, stopped_unclaimed, master_ends_first, reads_after_writes, empty_block, new_session}
use Rattle.job_laws.proofs.Standing.{legal_by, opens_job, opens_more}
use Rattle.job_laws.proofs.journals.rows_of_jobs.Goals as goal

pub returns : goal.returns
returns c = record {
  files = legal_by files_and_nothing (opens_more, refl, refl);
  model = legal_by model_goes (opens_job 2 (omega arith) (omega arith), refl, refl);
  unclaimed = legal_by stopped_unclaimed (opens_job 2 (omega arith) (omega arith), refl, refl);
  master_first = legal_by master_ends_first (opens_job 2 (omega arith) (omega arith), refl, refl);
  memory = legal_by reads_after_writes (opens_job 2 (omega arith) (omega arith), refl, refl);
  empty = legal_by empty_block (opens_job 2 (omega arith) (omega arith), refl, refl);
  anew = legal_by new_session (opens_job 2 (omega arith) (omega arith), refl, refl);
}
