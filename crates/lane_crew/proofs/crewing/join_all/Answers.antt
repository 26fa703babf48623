use Rattle.std.proofs.Common.{[], ◌∷◌, ◌++◌, ap, ◌∙◌, arith}
use Rattle.std.proofs.lemmas.List.{length-append, append_assoc}
use Rattle.lane_crew.proofs.Starting.{zip_snoc}
use Rattle.lane_crew.proofs.crewing.join_all.Goals as goal

pub loop-one-preserved : goal.loop-one-preserved
loop-one-preserved g c =
    let so = c.loop-one.invariant in
    let put = c.push_reserved.ensures in
    record {
      can = (tt, tt);
      ends = (
        so.ends.0 ++ c.end_of.result ∷ [],
        put.items ∙ ap (λ them. them ++ c.end_of.result ∷ []) so.ends.1 ∙ append_assoc _ so.ends.0 (c.end_of.result ∷ []),
        zip_snoc _ c.loop-one.yielded so.ends.0 c.in-Some.one c.end_of.result so.ends.2 c.end_of.ensures,
      );
      counted = let more = length-append c.loop-one.yielded (c.in-Some.one ∷ []) in let has = so.counted in let now = put.len in omega arith;
      room = put.capacity ∙ so.room;
    }
