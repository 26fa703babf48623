use Rattle.std.proofs.Common.{ap}
use Rattle.model_table.specs.Tables.{lane_told}
use Rattle.model_table.proofs.lanes.tell_held.Goals as goal

pub hold-requires : goal.hold-requires
hold-requires c = c.requires c.args.entry.now.lane (ap (lane_told c.args.entry.now.lane) c.in-Claim-Claimed.is-1)
