use Rattle.std.proofs.Common.{refl, sym, ◌∙◌, ap, subst}
use Rattle.mos_typing.specs.Spellings.{AreIndexesAndValue}
use Rattle.mos_tree.specs.declared.form.PieceKind.TheVariants as piece_kind
use Rattle.mos_form.specs.Cells.{AreParts, parts_height, parts_trees, with_parts, TellsCell}
use Rattle.mos_form.specs.Telling.{assign_form}
use Rattle.mos_form.proofs.Telling.{tell_ok, tell_err}
use Rattle.mos_form.proofs.Spelled.{sides_read}
use Rattle.mos_form.proofs.cells.cell_assignment.Goals as goal

pub returns-in-Ok : goal.returns-in-Ok
returns-in-Ok c =
    subst (TellsCell c.args.name c.args.field c.args.operator c.args.indexes.now c.args.value.now) (sym (c.assigned.ensures ∙ ap (λ z. assign_form z c.args.operator c.in-Ok.value) c.cell.ensures))
    (tell_ok (AreParts c.args.indexes.now c.args.value.now) parts_trees parts_height (AreIndexesAndValue c.args.indexes.now c.args.value.now) (sides_read c.args.indexes.now c.args.value.now)
    (with_parts c.args.name c.args.field c.args.operator) (c.in-Ok.indexes, c.in-Ok.value) c.in-Ok.ensures)

pub returns-in-Err : goal.returns-in-Err
returns-in-Err c =
    tell_err (AreParts c.args.indexes.now c.args.value.now) parts_trees parts_height (AreIndexesAndValue c.args.indexes.now c.args.value.now) (sides_read c.args.indexes.now c.args.value.now)
    (with_parts c.args.name c.args.field c.args.operator) piece_kind.Simple (λ q. refl) c.in-Err.fault c.in-Err.ensures c.refused.result c.refused.ensures
