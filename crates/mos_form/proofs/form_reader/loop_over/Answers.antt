use Rattle.mos_form.proofs.Keyed.{forall_piece, no_forall}
use Rattle.mos_form.proofs.form_reader.loop_over.Goals as goal

pub returns-in-Some : goal.returns-in-Some
returns-in-Some c = forall_piece c.args.rest.now c.in-Some.inside.now c.in-Some.ensures c.forall.result c.forall.ensures

pub returns-in-None : goal.returns-in-None
returns-in-None c = no_forall c.args.rest.now c.in-None.ensures
