use Rattle.std.proofs.Common.{◌≡◌, subst, refl}
use Rattle.lane_crew.specs.Starts.{HasCome}
use Rattle.lane_crew.proofs.Starting.{one_begun, one_quit}
use Rattle.lane_crew.proofs.starts.turn_away.Goals as goal

pub returns-in-Ran-clause-next : goal.returns-in-Ran-clause-next
returns-in-Ran-clause-next g c lanes lane is so =
    let ran : g.L.Lane.ran lane c.in-Ran.end = subst (λ came. HasCome g.L.Lane.ran lane came) c.in-Ran.is is in
    one_begun _ _ lanes _ _ _ _ lane _ refl c.push_reserved.ensures.items so ran

pub returns-in-Back-clause-next : goal.returns-in-Back-clause-next
returns-in-Back-clause-next g c lanes lane is so =
    let same : c.in-Back.back ≡ lane = subst (λ came. HasCome g.L.Lane.ran lane came) c.in-Back.is is in
    one_quit _ _ lanes _ _ _ _ lane _ c.push_reserved-in-Back.ensures.items so (subst (λ of. g.L.Lane.quitted of c.quit.result) same c.quit.ensures)
