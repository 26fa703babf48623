use Rattle.std.proofs.Common.{◌≡◌, ◌+◌, ◌++◌, length}
use Rattle.std.specs.Prelude.{vec_len, vec_capacity}
use Rattle.lane_crew.proofs.crewing.put_behind.Given as goal

-- those so far are put there
abbrev pub invariant-loop-end : goal.invariant-loop-end
invariant-loop-end g l = record {
  can : (goal.iterator-loop-end g).can_next l.end-iterator × (goal.iterator-loop-end g).is_finite l.end-iterator;
  ends : l.ends.items ≡ l.initial.ends.items ++ l.yielded;
  counted : vec_len l.ends ≡ vec_len l.initial.ends + length l.yielded;
  room : vec_capacity l.ends ≡ vec_capacity l.initial.ends;
}
