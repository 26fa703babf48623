-- what the row answers is what the table has
use Rattle.std.proofs.Common.{◌∙◌, sym, ap}
use Rattle.job_calls.specs.Answers.{table_answer}
use Rattle.hub_core.proofs.answers.table_answer.Goals as goal

pub returns-in-PipeOpen-clause-answer : goal.returns-in-PipeOpen-clause-answer
returns-in-PipeOpen-clause-answer g c =
    c.open_answer.ensures c.args.run ∙ ap (table_answer (g.J.Lookups.list c.args.journal.now) c.args.run) (sym c.in-PipeOpen.is)
