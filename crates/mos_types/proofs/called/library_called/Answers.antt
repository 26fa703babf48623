-- by what is known of each step
use Rattle.mos_types.proofs.Joins.{library_called-by}
use Rattle.mos_types.proofs.called.library_called.Goals as goal

pub returns-clause-worst : goal.returns-clause-worst
returns-clause-worst c =
    library_called-by c.args.worst.now _ _ c.args.callable c.args.all _ _ c.as_slice.ensures c.in_ok-note_call.ensures c.is_procedure.ensures
    c.note_if.ensures
