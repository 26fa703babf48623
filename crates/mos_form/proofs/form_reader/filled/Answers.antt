use Rattle.mos_form.proofs.Named.{fill_piece, no_fill}
use Rattle.mos_form.proofs.form_reader.filled.Goals as goal

pub returns-in-Some : goal.returns-in-Some
returns-in-Some c = fill_piece c.args.name.now c.args.behind.now c.in-Some.values.now c.in-Some.ensures c.filling.result c.filling.ensures

pub returns-in-None : goal.returns-in-None
returns-in-None c = no_fill c.args.name.now c.args.behind.now c.in-None.ensures
