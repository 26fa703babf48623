-- each lane's own entries stand in the journal, and no others of that lane
use Rattle.tests_threads.proofs.Ends.{tells, all_tell}
use Rattle.tests_threads.proofs.ending.end.Goals as goal

pub returns-clause-first : goal.returns-clause-first
returns-clause-first c = tells c.one_lane_a_run.ensures c.args.first _ c.close.ensures.journal.sounds c.close.ensures.journal.first

pub returns-clause-others : goal.returns-clause-others
returns-clause-others c = all_tell c.one_lane_a_run.ensures c.args.others.items _ c.close.ensures.journal.sounds c.close.ensures.journal.rest
