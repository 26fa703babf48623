use Rattle.std.proofs.Common.{◌≡◌, ℕ, ◌%◌, ◌^◌, []}
use Rattle.hub_lock.specs.Inner.Turns.{IsSameRaw}
use Rattle.hub_lock.specs.Inner.Steps.{after_draw}
use Rattle.hub_lock.proofs.lock.Lock.enter.Given as goal

-- the seat waits with its ticket
abbrev pub invariant-loop : goal.invariant-loop
invariant-loop g l = IsSameRaw l.fn.raw l.raw × ((t : ℕ) × (l.ticket ≡ t % 2 ^ 64) × (l.raw.me ≡ (after_draw l.fn.raw.me.0 t, [])))
