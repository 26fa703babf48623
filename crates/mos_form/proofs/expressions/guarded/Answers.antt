use Rattle.std.proofs.Common.{◌≡◌, refl, subst}
use Rattle.mos_expr.specs.Grammar.{height, tree, IsGrouped, spell}
use Rattle.std.proofs.Common.{IfOk, Some}
use Rattle.mos_form.specs.Telling.{refusal}
use Rattle.mos_tree.specs.declared.form.Form.TheVariants as form_kind
use Rattle.mos_tree.specs.Forms.{condition_kind}
use Rattle.mos_form.proofs.Spelled.{spelled_ok, spelled_err}
use Rattle.mos_form.proofs.expressions.guarded.Goals as goal

pub returns-in-Ok : goal.returns-in-Ok
returns-in-Ok c = spelled_ok IsGrouped spell tree height c.args.words.now (form_kind.Guarded c.args.keyword) c.in-Ok.condition c.in-Ok.ensures

pub returns-in-Err : goal.returns-in-Err
returns-in-Err c = spelled_err IsGrouped spell tree height c.args.words.now (form_kind.Guarded c.args.keyword) (condition_kind c.args.keyword) (λ t. refl) c.in-Err.fault c.in-Err.ensures c.refused.result (subst (λ z. IfOk c.refused.result (λ form. Some form ≡ refusal z c.in-Err.fault)) c.condition_kind.ensures c.refused.ensures)
