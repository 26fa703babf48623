use Rattle.model_table.specs.Index.{IsIndexOf}
use Rattle.model_table.proofs.Journals.{noted}
use Rattle.model_table.proofs.table.ModelTable.note.Goals as goal

pub returns-clause-noted : goal.returns-clause-noted
returns-clause-noted c = λ journal stands few.
    let ready : IsIndexOf c.ready_for.new.self journal = c.ready_for.ensures.same journal stands in
    noted c.ready_for.new.self c.tell.new.self c.tally.new.self journal c.args.entry.now c.is_ending-ends.result c.is_starting-starts.result c.is_ending-ends.ensures c.is_starting-starts.ensures
    c.tell.ensures c.tally.ensures ready few
