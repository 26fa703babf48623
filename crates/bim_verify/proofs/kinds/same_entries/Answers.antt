use Rattle.std.proofs.Common.{◌∙◌, sym}
use Rattle.bim_verify.specs.Kinds.{same_kind, kind_of}
use Rattle.bim_verify.proofs.SameLists.{rest_missing_of}
use Rattle.bim_verify.proofs.kinds.same_entries.Goals as goal

pub returns-in-None : goal.returns-in-None
returns-in-None c = sym (rest_missing_of (same_kind c.args.image.now) (kind_of c.args.image.now) c.args.operands.now c.loop-operand.rest.now c.loop-operand.operand-index c.loop-operand-test.true c.in-None.ensures.cases) ∙ c.loop-operand.invariant
