use Rattle.std.proofs.Common.{◌∙◌, sym}
use Rattle.bim_verify.specs.Kinds.{same_index}
use Rattle.bim_verify.proofs.SameLists.{rest_missing}
use Rattle.bim_verify.proofs.same.same_indexes.Goals as goal

pub returns-in-None : goal.returns-in-None
returns-in-None c = sym (rest_missing (same_index c.args.image.now) c.args.indexes.now c.loop-index.rest.now c.loop-index.index-index c.loop-index-test.true c.in-None.ensures.cases) ∙ c.loop-index.invariant
