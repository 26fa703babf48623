use Rattle.job_laws.proofs.Sources.{have_sources}
use Rattle.job_laws.proofs.laws.runs_have_sources.Goals as goal

pub returns : goal.returns
returns c = have_sources
