use Rattle.mos_form.proofs.Named.{no_field}
use Rattle.mos_form.proofs.form_reader.dotted.Goals as goal

pub returns-in-None : goal.returns-in-None
returns-in-None c = no_field c.args.name.now c.args.behind.now c.in-None.ensures
