use Rattle.std.proofs.Common.{refl}
use Rattle.mos_expr.specs.Grammar.{heights, trees, spell_list}
use Rattle.mos_tree.specs.declared.form.Form.TheVariants as form_kind
use Rattle.mos_tree.specs.declared.form.PieceKind.TheVariants as piece_kind
use Rattle.mos_expr.specs.Said.{AreSomeGrouped}
use Rattle.mos_form.proofs.Spelled.{spelled_ok, spelled_err}
use Rattle.mos_form.proofs.expressions.alternative.Goals as goal

pub returns-in-Ok : goal.returns-in-Ok
returns-in-Ok c = spelled_ok AreSomeGrouped spell_list trees heights c.args.words.now form_kind.Alternative c.in-Ok.labels c.in-Ok.ensures

pub returns-in-Err : goal.returns-in-Err
returns-in-Err c = spelled_err AreSomeGrouped spell_list trees heights c.args.words.now form_kind.Alternative piece_kind.Alternative (λ t. refl) c.in-Err.fault c.in-Err.ensures c.refused.result c.refused.ensures
