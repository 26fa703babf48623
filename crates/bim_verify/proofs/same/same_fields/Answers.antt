use Rattle.std.proofs.Common.{◌∙◌, sym}
use Rattle.bim_verify.specs.Kinds.{same_field}
use Rattle.bim_verify.proofs.SameLists.{rest_missing}
use Rattle.bim_verify.proofs.same.same_fields.Goals as goal

pub returns-in-None : goal.returns-in-None
returns-in-None c = sym (rest_missing (same_field c.args.image.now) c.args.fields.now c.loop-field.rest.now c.loop-field.field-index c.loop-field-test.true c.in-None.ensures.cases) ∙ c.loop-field.invariant
