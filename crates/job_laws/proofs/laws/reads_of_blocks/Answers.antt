use Rattle.job_laws.proofs.Truth.{reads_blocks}
use Rattle.job_laws.proofs.laws.reads_of_blocks.Goals as goal

pub returns : goal.returns
returns c = reads_blocks
