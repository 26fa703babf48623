use Rattle.std.proofs.Common.{refl}
use Rattle.hub_lock.proofs.Waiting.{begins, still_allowed}
use Rattle.hub_lock.proofs.keep.Keep.act_when_ready.Goals as goal

pub loop-init : goal.loop-init
loop-init g c = record { call = refl; own = c.requires.own; waited = begins g.S.Story c.args.seat.now }

pub act-requires-clause-allowed : goal.act-requires-clause-allowed
act-requires-clause-allowed g c = still_allowed g.S.Story c.args.seat.now c.loop.seat c.args.call c.loop.call c.loop.invariant.call c.loop.invariant.waited c.requires.allowed
