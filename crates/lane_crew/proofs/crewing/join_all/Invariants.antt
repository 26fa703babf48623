use Rattle.std.proofs.Common.{◌≡◌, ◌+◌, ◌++◌, List, length}
use Rattle.std.specs.Prelude.{vec_len, vec_capacity}
use Rattle.std.specs.List.{AllZip}
use Rattle.lane_crew.specs.Starts.{IsBegun}
use Rattle.lane_crew.proofs.crewing.join_all.Given as goal

-- those so far are joined
abbrev pub invariant-loop-one : goal.invariant-loop-one
invariant-loop-one g l = record {
  can : (goal.iterator-loop-one g).can_next l.one-iterator × (goal.iterator-loop-one g).is_finite l.one-iterator;
  ends : (more : List _) × (l.ends.items ≡ l.initial.ends.items ++ more)
      × AllZip (λ one end. (lane : _) → IsBegun (λ of handle. handle.promise.lane.value ≡ of) g.L.Lane.ran lane one → g.L.Lane.ran lane end) l.yielded more;
  counted : vec_len l.ends ≡ vec_len l.initial.ends + length l.yielded;
  room : vec_capacity l.ends ≡ vec_capacity l.initial.ends;
}
