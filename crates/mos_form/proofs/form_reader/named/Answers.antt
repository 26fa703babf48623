use Rattle.mos_form.proofs.Named.{bare_piece}
use Rattle.mos_form.proofs.form_reader.named.Goals as goal

pub returns-in_ok-copy-in-None : goal.returns-in_ok-copy-in-None
returns-in_ok-copy-in-None c = bare_piece c.args.words.now c.args.rest.now c.args.name.now c.in_ok-copy-in-None.field-0 c.requires c.in-None.ensures c.in_ok-copy-in-None.ensures
