use Rattle.model_table.proofs.Quiet.{can_take}
use Rattle.model_table.proofs.table.ModelTable.can_note.Goals as goal

pub returns : goal.returns
returns c = λ journal stands quiet runs lane.
    can_take c.args.self.now journal c.args.entry.now stands quiet runs lane c.args.self.now.places c.args.self.now.seats
