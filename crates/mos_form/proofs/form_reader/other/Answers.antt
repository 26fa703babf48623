use Rattle.mos_form.proofs.Whole.{no_beginning}
use Rattle.mos_form.proofs.form_reader.other.Goals as goal

pub returns-in-None-first_name : goal.returns-in-None-first_name
returns-in-None-first_name c = no_beginning c.args.words.now c.in-None.ensures c.in-None-first_name.ensures
