-- by its lemma
use Rattle.mos_check.proofs.KnownStatements.{checked-works}
use Rattle.mos_check.proofs.laws.checked_models.Goals as goal

pub returns : goal.returns
returns c = checked-works
