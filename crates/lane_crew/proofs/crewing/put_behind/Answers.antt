use Rattle.std.proofs.Common.{[], ◌∷◌, ◌++◌, ap, ◌∙◌, arith}
use Rattle.std.proofs.lemmas.List.{length-append, append_assoc}
use Rattle.lane_crew.proofs.crewing.put_behind.Goals as goal

pub loop-end-preserved : goal.loop-end-preserved
loop-end-preserved g c =
    let so = c.loop-end.invariant in
    let put = c.push_reserved.ensures in
    record {
      can = (tt, tt);
      ends = put.items ∙ ap (λ them. them ++ c.in-Some.end ∷ []) so.ends ∙ append_assoc _ c.loop-end.yielded (c.in-Some.end ∷ []);
      counted = let more = length-append c.loop-end.yielded (c.in-Some.end ∷ []) in let has = so.counted in let now = put.len in omega arith;
      room = put.capacity ∙ so.room;
    }
