use Rattle.job_laws.proofs.Truth.{reads_files}
use Rattle.job_laws.proofs.laws.reads_of_files.Goals as goal

pub returns : goal.returns
returns c = reads_files
