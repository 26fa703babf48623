use Rattle.std.proofs.Common.{refl}
use Rattle.mos_expr.specs.Grammar.{height_index, index_of, IsGroupedIndex, spell_index}
use Rattle.mos_tree.specs.declared.form.Form.TheVariants as form_kind
use Rattle.mos_tree.specs.declared.form.PieceKind.TheVariants as piece_kind
use Rattle.mos_form.proofs.Spelled.{spelled_ok, spelled_err}
use Rattle.mos_form.proofs.expressions.forall.Goals as goal

pub returns-in-Ok : goal.returns-in-Ok
returns-in-Ok c = spelled_ok IsGroupedIndex spell_index index_of height_index c.args.words.now form_kind.Forall c.in-Ok.index c.in-Ok.ensures

pub returns-in-Err : goal.returns-in-Err
returns-in-Err c = spelled_err IsGroupedIndex spell_index index_of height_index c.args.words.now form_kind.Forall piece_kind.Forall (λ t. refl) c.in-Err.fault c.in-Err.ensures c.refused.result c.refused.ensures
