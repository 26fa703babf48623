use Rattle.mos_form.proofs.Keyed.{condition_piece, no_condition}
use Rattle.mos_form.proofs.form_reader.behind_condition.Goals as goal

pub returns-in-Some : goal.returns-in-Some
returns-in-Some c = condition_piece c.args.keyword c.args.rest.now c.in-Some.inside.now c.in-Some.ensures c.guarded.result c.guarded.ensures

pub returns-in-None : goal.returns-in-None
returns-in-None c = no_condition c.args.keyword c.args.rest.now c.in-None.ensures
