use Rattle.mos_form.proofs.Named.{field_piece}
use Rattle.mos_form.proofs.form_reader.set_field.Goals as goal

pub returns : goal.returns
returns c = field_piece c.args.name.now c.in_ok-name.name c.args.field.now c.in_ok-field.field c.args.operator c.args.value.now c.in_ok-name.ensures c.in_ok-field.ensures c.assignment.result c.assignment.ensures
