use Rattle.bim_open.proofs.OneAnswer as one
use Rattle.bim_open.proofs.laws.one_answer.Goals as goal

pub returns-clause-never_both : goal.returns-clause-never_both
returns-clause-never_both c = one.never_both

pub returns-clause-one_image : goal.returns-clause-one_image
returns-clause-one_image c = λ bytes image other is is_too. one.one_image bytes image other is.read is_too.read

pub returns-clause-one_fault : goal.returns-clause-one_fault
returns-clause-one_fault c = one.one_fault
