use Rattle.std.proofs.Common.{refl, subst}
use Rattle.mos_expr.specs.Grammar.{heights, trees, AreGrouped, spell_list}
use Rattle.mos_tree.specs.declared.form.PieceKind.TheVariants as piece_kind
use Rattle.mos_form.specs.Telling.{call_form, TellsAll}
use Rattle.mos_form.proofs.Spelled.{spelled_ok, spelled_err}
use Rattle.mos_form.proofs.expressions.call.Goals as goal

pub returns-in-Ok : goal.returns-in-Ok
returns-in-Ok c = subst (λ n. TellsAll (call_form n) c.args.words.now (call_form c.in_ok-name.name c.in-Ok.arguments)) c.in_ok-name.ensures (spelled_ok AreGrouped spell_list trees heights c.args.words.now (call_form c.in_ok-name.name) c.in-Ok.arguments c.in-Ok.ensures)

pub returns-in-Err : goal.returns-in-Err
returns-in-Err c = spelled_err AreGrouped spell_list trees heights c.args.words.now (call_form c.args.name.now) piece_kind.Simple (λ t. refl) c.in-Err.fault c.in-Err.ensures c.refused.result c.refused.ensures
