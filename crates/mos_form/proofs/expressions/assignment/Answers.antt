use Rattle.std.proofs.Common.{refl, sym, subst}
use Rattle.mos_expr.specs.Grammar.{height, tree, IsGrouped, spell}
use Rattle.mos_tree.specs.declared.form.PieceKind.TheVariants as piece_kind
use Rattle.mos_form.specs.Telling.{assign_form, TellsOne}
use Rattle.mos_form.proofs.Spelled.{spelled_ok, spelled_err}
use Rattle.mos_form.proofs.expressions.assignment.Goals as goal

pub returns-in-Ok : goal.returns-in-Ok
returns-in-Ok c = subst (TellsOne (assign_form c.args.target c.args.operator) c.args.words.now) (sym c.assigned.ensures) (spelled_ok IsGrouped spell tree height c.args.words.now (assign_form c.args.target c.args.operator) c.in-Ok.value c.in-Ok.ensures)

pub returns-in-Err : goal.returns-in-Err
returns-in-Err c = spelled_err IsGrouped spell tree height c.args.words.now (assign_form c.args.target c.args.operator) piece_kind.Simple (λ t. refl) c.in-Err.fault c.in-Err.ensures c.refused.result c.refused.ensures
