use Rattle.bim_verify.proofs.Kept.{unbroken_is_kept}
use Rattle.bim_verify.proofs.Unbroken.{kept_is_unbroken}
use Rattle.bim_verify.proofs.laws.rules_are_one.Goals as goal

pub returns-clause-kept : goal.returns-clause-kept
returns-clause-kept c = unbroken_is_kept

pub returns-clause-unbroken : goal.returns-clause-unbroken
returns-clause-unbroken c = kept_is_unbroken
