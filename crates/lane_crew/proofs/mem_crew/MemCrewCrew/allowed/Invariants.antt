use Rattle.std.proofs.Common.{ℕ, ◌<◌}
use Rattle.lane_crew.specs.Refusing.{Refuses}
use Rattle.lane_crew.proofs.mem_crew.MemCrewCrew.allowed.Given as goal

-- none so far is to be refused
abbrev pub invariant-loop-n : goal.invariant-loop-n
invariant-loop-n l = (before : ℕ) → before < l.n → ¬ (Refuses l.self.starts before)
