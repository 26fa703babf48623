use Rattle.std.proofs.Common.{◌≡◌, map, []}
use Rattle.hub_lock.specs.declared.rule.Stage.TheVariants.{Idle}
use Rattle.hub_lock.specs.Inner.Turns.{IsSameRaw}
use Rattle.hub_lock.proofs.Ends.{part_by}
use Rattle.hub_lock.proofs.keep.Keep.close.Given as goal

-- the seats so far are joined
abbrev pub invariant-loop-other : goal.invariant-loop-other
invariant-loop-other g l = record {
  can : (goal.iterator-loop-other g).can_next l.other-iterator × (goal.iterator-loop-other g).is_finite l.other-iterator;
  same : IsSameRaw l.initial.raw l.raw;
  rests : (l.raw.me.0.stage ≡ Idle) × (l.raw.me.1 ≡ []);
  lane : l.raw.me.0.lane ≡ l.initial.raw.me.0.lane;
  made : l.raw.me.0.made ≡ l.initial.raw.me.0.made;
  seen : l.raw.me.0.seen ≡ l.initial.raw.me.0.seen;
  marks : l.raw.me.0.marks ≡ l.initial.raw.me.0.marks;
  joined : l.raw.me.0.joined ≡ map part_by l.yielded;
}
