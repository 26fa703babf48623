use Rattle.std.proofs.Common.{rules, ap, ◌∙◌}
use Rattle.lane_crew.proofs.Starting.{one_begun, one_quit}
use Rattle.lane_crew.proofs.starts.start_next.Goals as goal

pub returns-then-not-may-clause-next : goal.returns-then-not-may-clause-next
returns-then-not-may-clause-next g c lanes going may so = one_quit _ _ lanes _ _ _ going _ _ c.push_reserved.ensures.items so c.quit.ensures

pub returns-in-Ok-clause-next : goal.returns-in-Ok-clause-next
returns-in-Ok-clause-next g c lanes going may so =
    one_begun _ _ lanes _ _ _ going _ _ (may (search rules)) c.push_reserved-in-Ok.ensures.items so (ap (λ p. p.lane.value) c.in-Ok.ensures.ok ∙ c.comes_of.ensures)
