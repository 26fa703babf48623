use Rattle.mos_form.proofs.Named.{variable_piece}
use Rattle.mos_form.proofs.form_reader.set_variable.Goals as goal

pub returns : goal.returns
returns c = variable_piece c.args.name.now c.in_ok-name.name c.args.operator c.args.behind.now c.in_ok-name.ensures c.assignment.result c.assignment.ensures
