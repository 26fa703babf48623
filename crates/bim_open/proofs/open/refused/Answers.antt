use Rattle.std.proofs.Common.{subst}
use Rattle.bim_verify.specs.declared.verifier.VerifyFault.{VerifyFault}
use Rattle.bim_verify.specs.Verified.{IsFaultOf}
use Rattle.bim_open.proofs.Faults.{refused_fault}
use Rattle.bim_open.proofs.open.refused.Goals as goal

pub returns-in-Rejected : goal.returns-in-Rejected
returns-in-Rejected c = λ bytes image found told.
    refused_fault bytes image c.in-Rejected.at c.in-Rejected.rule c.above_kinds.result found
    (subst (λ (fault : VerifyFault). IsFaultOf image fault) c.in-Rejected.is told) c.above_kinds.ensures
