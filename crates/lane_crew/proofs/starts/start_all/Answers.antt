use Rattle.std.proofs.Common.{◌≡◌, [], ◌∷◌, true, ◌∙◌, arith}
use Rattle.std.proofs.lemmas.List.{length-append}
use Rattle.lane_crew.proofs.starts.start_all.Goals as goal
use Rattle.lane_crew.proofs.starts.start_all.Goals.{then-going, else-going}

pub loop-lane-preserved : goal.loop-lane-preserved
loop-lane-preserved g c =
    let so = c.loop-lane.invariant in
    let step = c.start_next-going.ensures in
    let may : c.if-going.may ≡ true → c.loop-lane.going ≡ true = elim c.if-going.branch [ then-going w ↦ λ is. w.if-going.true | else-going w ↦ λ is. let has = w.may-is in cc ] in
    record {
      can = (tt, tt);
      started = step.next c.loop-lane.yielded c.loop-lane.going may so.started;
      counted = let more = length-append c.loop-lane.yielded (c.in-Some.lane ∷ []) in let has = so.counted in let now = step.counted in omega arith;
      begun_room = step.begun_room ∙ so.begun_room;
      over_room = step.over_room ∙ so.over_room;
    }
