use Rattle.mos_form.proofs.Keyed.{data_piece, no_data, empty_data}
use Rattle.mos_form.proofs.form_reader.data_block.Goals as goal

pub returns-in-Some-direction_of : goal.returns-in-Some-direction_of
returns-in-Some-direction_of c = data_piece c.in-Some-direction_of.direction c.in-Some.word.now c.args.rest.now c.in-Some.name.now c.in-Some-direction_of.ensures c.in-Some.ensures c.initializations.result c.initializations.ensures

pub returns-in-None-direction_of : goal.returns-in-None-direction_of
returns-in-None-direction_of c = no_data c.in-Some.word.now c.args.rest.now c.in-Some.name.now c.in-None-direction_of.ensures c.in-Some.ensures

pub returns-in-None : goal.returns-in-None
returns-in-None c = empty_data c.args.rest.now c.in-None.ensures
