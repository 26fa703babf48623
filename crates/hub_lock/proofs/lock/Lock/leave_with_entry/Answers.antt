use Rattle.std.proofs.Common.{rules}
use Rattle.hub_lock.proofs.Turns.{counts_with}
use Rattle.hub_lock.proofs.lock.Lock.leave_with_entry.Goals as goal

pub fetch_add-requires : goal.fetch_add-requires
fetch_add-requires g c = (search rules, search rules, counts_with _ _ _ _ _ c.give.new.raw.me c.args.raw.now c.args.story c.give.ensures.view c.requires.mark c.requires.entry)
