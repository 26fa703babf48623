use Rattle.std.proofs.Common.{None}
use Rattle.mos_form.proofs.Routines.{routine_piece, no_name}
use Rattle.mos_form.proofs.headings.procedure.Goals as goal

pub returns-in-Some : goal.returns-in-Some
returns-in-Some c = routine_piece c.args.forward None c.in-Some.name.now c.args.words.now c.in-Some.formals.now c.in-Some.ensures c.routine.result c.routine.ensures

pub returns-in-None : goal.returns-in-None
returns-in-None c = no_name c.args.forward None c.args.words.now c.in-None.ensures
