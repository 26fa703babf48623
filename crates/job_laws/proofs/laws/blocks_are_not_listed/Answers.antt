use Rattle.job_laws.proofs.Listing.{blocks_unlisted}
use Rattle.job_laws.proofs.laws.blocks_are_not_listed.Goals as goal

pub returns : goal.returns
returns c = blocks_unlisted
