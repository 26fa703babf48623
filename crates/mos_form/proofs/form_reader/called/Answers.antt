use Rattle.mos_form.proofs.Bracketed.{call_piece, no_call}
use Rattle.mos_form.proofs.form_reader.called.Goals as goal

pub returns-in-Some : goal.returns-in-Some
returns-in-Some c = call_piece c.args.name.now c.args.behind.now c.in-Some.arguments.now c.in-Some.ensures c.call.result c.call.ensures

pub returns-in-None : goal.returns-in-None
returns-in-None c = no_call c.args.name.now c.args.behind.now c.in-None.ensures
