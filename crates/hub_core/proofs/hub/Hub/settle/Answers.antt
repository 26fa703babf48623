-- no call but `Run` starts a run
use Rattle.hub_core.proofs.Starting.{only_runs}
use Rattle.hub_core.proofs.hub.Hub.settle.Goals as goal

pub start_with-requires : goal.start_with-requires
start_with-requires c =
    only_runs c.answers_fit.ensures c.args.self.now.0 c.args.lane c.args.run c.args.call c.args.reply c.in_range.ensures c.requires.answer c.requires.fit
