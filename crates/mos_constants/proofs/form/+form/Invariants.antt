-- those before have the form
use Rattle.std.proofs.Common.{◌≡◌, drop}
use Rattle.mos_constants.specs.Forms.{have_constant_form}
use Rattle.mos_constants.proofs.form.+form.Given as goal

abbrev pub invariant-have_constant_form-loop-expr : goal.invariant-have_constant_form-loop-expr
invariant-have_constant_form-loop-expr l = have_constant_form l.scope (drop l.expr-index l.all) ≡ have_constant_form l.scope l.all
