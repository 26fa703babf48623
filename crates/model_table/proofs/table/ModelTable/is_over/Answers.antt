use Rattle.std.proofs.Common.{ap, ◌∙◌}
use Rattle.model_table.proofs.Journals.{over_is}
use Rattle.model_table.proofs.table.ModelTable.is_over.Goals as goal

pub returns : goal.returns
returns c = λ journal stands. ap (λ run. run.over) c.run.ensures ∙ (stands.runs c.args.run).over ∙ over_is c.args.run journal
