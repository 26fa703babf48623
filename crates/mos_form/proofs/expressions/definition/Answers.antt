use Rattle.std.proofs.Common.{refl, subst}
use Rattle.mos_expr.specs.Grammar.{height, tree, IsGrouped, spell}
use Rattle.mos_tree.specs.declared.form.Form.TheVariants as form_kind
use Rattle.mos_tree.specs.declared.form.PieceKind.TheVariants as piece_kind
use Rattle.mos_form.specs.Telling.{TellsOne}
use Rattle.mos_form.proofs.Spelled.{spelled_ok, spelled_err}
use Rattle.mos_form.proofs.expressions.definition.Goals as goal

pub returns-in-Ok : goal.returns-in-Ok
returns-in-Ok c = subst (λ n. TellsOne (form_kind.Definition n) c.args.words.now (form_kind.Definition c.in_ok-name.name c.in-Ok.value)) c.in_ok-name.ensures (spelled_ok IsGrouped spell tree height c.args.words.now (form_kind.Definition c.in_ok-name.name) c.in-Ok.value c.in-Ok.ensures)

pub returns-in-Err : goal.returns-in-Err
returns-in-Err c = spelled_err IsGrouped spell tree height c.args.words.now (form_kind.Definition c.args.name.now) piece_kind.Definition (λ t. refl) c.in-Err.fault c.in-Err.ensures c.refused.result c.refused.ensures
