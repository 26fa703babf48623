use Rattle.bim_format.proofs.Ranges.{rules_fit}
use Rattle.bim_format.proofs.laws.rules_fit_fields.Goals as goal

pub returns : goal.returns
returns c = rules_fit
