use Rattle.std.proofs.Common.{◌≡◌, ◌+◌, length}
use Rattle.std.specs.Prelude.{vec_len, vec_capacity}
use Rattle.lane_crew.specs.Starts.{IsBegun, HaveStarted}
use Rattle.lane_crew.proofs.starts.start_all.Given as goal

-- the lanes so far
abbrev pub invariant-loop-lane : goal.invariant-loop-lane
invariant-loop-lane g l = record {
  can : (goal.iterator-loop-lane g).can_next l.lane-iterator × (goal.iterator-loop-lane g).is_finite l.lane-iterator;
  started : HaveStarted (IsBegun (λ of handle. handle.promise.lane.value ≡ of) g.L.Lane.ran) g.L.Lane.quitted l.yielded l.begun.items l.over.items l.going;
  counted : vec_len l.begun + vec_len l.over ≡ length l.yielded;
  begun_room : vec_capacity l.begun ≡ vec_capacity l.initial.begun;
  over_room : vec_capacity l.over ≡ vec_capacity l.initial.over;
}
