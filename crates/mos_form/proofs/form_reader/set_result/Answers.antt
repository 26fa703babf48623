use Rattle.mos_form.proofs.Keyed.{result_piece, no_result, empty_result}
use Rattle.mos_form.proofs.form_reader.set_result.Goals as goal

pub returns-in-Some-operator_of : goal.returns-in-Some-operator_of
returns-in-Some-operator_of c = result_piece c.in-Some-operator_of.operator c.in-Some.word.now c.args.rest.now c.in-Some.value.now c.in-Some-operator_of.ensures c.in-Some.ensures c.assignment.result c.assignment.ensures

pub returns-in-None-operator_of : goal.returns-in-None-operator_of
returns-in-None-operator_of c = no_result c.in-Some.word.now c.args.rest.now c.in-Some.value.now c.in-None-operator_of.ensures c.in-Some.ensures

pub returns-in-None : goal.returns-in-None
returns-in-None c = empty_result c.args.rest.now c.in-None.ensures
