use Rattle.std.proofs.Common.{ap, arith}
use Rattle.model_table.specs.Tables.{lane_told}
use Rattle.model_table.proofs.lanes.tell_lanes.Goals as goal

pub finish-requires : goal.finish-requires
finish-requires c =
    let less = c.requires c.args.entry.now.lane (ap (lane_told c.args.entry.now.lane) c.in-Done.is) in
    let same = c.tell_held.ensures.places in
    omega (arith, less, same)
