-- by computing
use Rattle.std.proofs.Common.{refl}
use Rattle.job_laws.proofs.journals.runs_of_a_journal.Goals as goal

pub returns : goal.returns
returns c = record {
  two = refl;
  source_of_master = refl;
  source_of_child = refl;
  source_of_unloaded = refl;
  params_of_master = refl;
  params_of_child = refl;
  calls_of_master = refl;
  replies_of_master = refl;
  calls_of_child = refl;
  finish_of_child = refl;
}
