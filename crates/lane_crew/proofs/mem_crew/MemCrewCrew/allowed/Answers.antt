use Rattle.std.proofs.Common.{arith}
use Rattle.lane_crew.specs.Refusing.{Refuses}
use Rattle.lane_crew.proofs.Refusing.{up_to}
use Rattle.lane_crew.proofs.mem_crew.MemCrewCrew.allowed.Goals as goal

pub loop-n-preserved : goal.loop-n-preserved
loop-n-preserved c =
    up_to (λ n. Refuses c.args.self.now.starts n → ⊥) c.loop-n.n c.loop-n.invariant (λ is. let yes = c.refuses.ensures.1 is in let nay = c.if-refuses.false in cc)

pub returns-clause-before : goal.returns-clause-before
returns-clause-before c n less = c.loop-n.invariant n (omega (arith, less, c.loop-n-test.false))
