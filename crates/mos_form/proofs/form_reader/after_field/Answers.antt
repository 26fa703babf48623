use Rattle.mos_form.proofs.Named.{field_only, field_alone}
use Rattle.mos_form.proofs.form_reader.after_field.Goals as goal

pub returns-in-None-operator_of : goal.returns-in-None-operator_of
returns-in-None-operator_of c = field_only c.args.name.now c.args.field.now c.args.rest.now c.in-Some.value.now c.in-Some.word.now c.in-Some.ensures c.in-None-operator_of.ensures

pub returns-in-None : goal.returns-in-None
returns-in-None c = field_alone c.args.name.now c.args.field.now c.args.rest.now c.in-None.ensures
