-- by computing, and by the ranges of the types
use Rattle.std.proofs.Common.{arith, rules, refl}
use Rattle.job_laws.proofs.Outcomes.{false_true}
use Rattle.job_laws.proofs.journals.replies_that_fit.Goals as goal

pub returns-clause-fitting : goal.returns-clause-fitting
returns-clause-fitting c = search rules

pub returns-clause-fault : goal.returns-clause-fault
returns-clause-fault c = (refl, tt)

pub returns-clause-fault_of_its_own : goal.returns-clause-fault_of_its_own
returns-clause-fault_of_its_own c = λ h. absurd (false_true h.0)

pub returns-clause-of_another_call : goal.returns-clause-of_another_call
returns-clause-of_another_call c = λ h. absurd (false_true h.0)

pub returns-clause-too_large : goal.returns-clause-too_large
returns-clause-too_large c = λ h. let r = h.1 in absurd (omega (arith, r))
