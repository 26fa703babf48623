use Rattle.std.proofs.Common.{rules}
use Rattle.hub_lock.proofs.Parts.{joins}
use Rattle.hub_lock.proofs.lock.Lock.join.Goals as goal

pub join_seat-requires : goal.join_seat-requires
join_seat-requires g c =
    let gone = c.args.gone in
    (search rules, search rules, search rules, search rules, joins _ _ _ _ c.args.raw.now.me.0 _ gone.me.0 c.requires.first.0 c.requires.first.2 c.requires.rests.0 c.requires.next c.requires.rests.2)
