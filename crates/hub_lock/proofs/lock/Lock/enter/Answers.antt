use Rattle.std.proofs.Common.{rules}
use Rattle.hub_lock.proofs.Steps.{draws}
use Rattle.hub_lock.proofs.Turns.{looks_with}
use Rattle.hub_lock.proofs.lock.Lock.enter.Goals as goal

pub fetch_add-ticket-requires : goal.fetch_add-ticket-requires
fetch_add-ticket-requires g c = (search rules, search rules, draws _ _ _ _ _ _ c.requires.rests.0)

pub load-requires : goal.load-requires
load-requires g c = let i = c.loop.invariant.1 in (search rules, search rules, looks_with _ _ _ _ _ c.loop.raw.me c.args.raw.now.me.0 i.0 i.2)
