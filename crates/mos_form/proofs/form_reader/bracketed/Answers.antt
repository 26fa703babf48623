use Rattle.mos_form.proofs.Bracketed.{call_only, cell_only, nothing_open}
use Rattle.mos_form.proofs.form_reader.bracketed.Goals as goal

pub returns-in-None : goal.returns-in-None
returns-in-None c = call_only c.args.name.now c.args.behind.now c.in-None.ensures c.called.result c.called.ensures

pub returns-in-Some-operator_of : goal.returns-in-Some-operator_of
returns-in-Some-operator_of c =
    cell_only c.expressions_have_plain_words.ensures.list c.args.name.now c.args.behind.now c.in-Some.target.now c.in-Some.value.now c.in-Some.word.now c.in-Some-operator_of.operator
    c.in-Some.ensures.0 c.in-Some.ensures.1 c.in-Some.ensures.2 c.in-Some-operator_of.ensures c.set_cell.result c.set_cell.ensures

pub returns-in-None-operator_of : goal.returns-in-None-operator_of
returns-in-None-operator_of c =
    nothing_open c.expressions_have_plain_words.ensures.list c.args.name.now c.args.behind.now c.in-Some.target.now c.in-Some.value.now c.in-Some.word.now
    c.in-Some.ensures.0 c.in-Some.ensures.1 c.in-Some.ensures.2 c.in-None-operator_of.ensures
