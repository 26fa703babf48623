-- each status comes in its own way alone
use Rattle.mosel_run.specs.Jobs.{OneThread}
use Rattle.mosel_run.proofs.Answering.{any_journal}
use Rattle.mosel_run.proofs.Exactness.{exact_usage, exact_missing, exact_too_large, exact_refused, exact_report}
use Rattle.mosel_run.proofs.top.tool.Goals as goal

pub returns-clause-answered : goal.returns-clause-answered
returns-clause-answered g c = any_journal _ _ _ c.perform.result c.perform.ensures.one_thread

pub returns-clause-usage : goal.returns-clause-usage
returns-clause-usage g c = exact_usage OneThread _ _ _ c.perform.result c.perform.ensures.one_thread

pub returns-clause-missing : goal.returns-clause-missing
returns-clause-missing g c = exact_missing OneThread _ _ _ c.perform.result c.perform.ensures.one_thread

pub returns-clause-too_large : goal.returns-clause-too_large
returns-clause-too_large g c = exact_too_large OneThread _ _ _ c.perform.result c.perform.ensures.one_thread

pub returns-clause-refused : goal.returns-clause-refused
returns-clause-refused g c = exact_refused OneThread _ _ _ c.perform.result c.perform.ensures.one_thread

pub returns-clause-report : goal.returns-clause-report
returns-clause-report g c = exact_report OneThread _ _ _ c.perform.result c.perform.ensures.one_thread
