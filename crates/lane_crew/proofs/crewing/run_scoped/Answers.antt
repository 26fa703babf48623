use Rattle.std.proofs.Common.{[], ◌∷◌, ◌++◌, length, sym, ap, ◌∙◌, subst, arith}
use Rattle.lane_crew.specs.Starts.{AreOver}
use Rattle.lane_crew.proofs.Starting.{all_counted, all_over}
use Rattle.lane_crew.proofs.crewing.run_scoped.Goals as goal

pub join_all-requires-clause-room : goal.join_all-requires-clause-room
join_all-requires-clause-room g c =
    let many = all_counted _ _ _ _ _ _ c.start_all-all.ensures.started in
    let none = ap length c.requires.empty.2 in
    omega (arith, c.args.room.ends.ok.0, c.push_reserved.ensures.len, c.push_reserved.ensures.capacity, c.requires.ends)

pub put_behind-requires : goal.put_behind-requires
put_behind-requires g c =
    let many = all_counted _ _ _ _ _ _ c.start_all-all.ensures.started in
    let none = ap length c.requires.empty.2 in
    omega (arith, c.args.room.ends.ok.0, c.push_reserved.ensures.len, c.push_reserved.ensures.capacity, c.join_all.ensures.counted, c.join_all.ensures.capacity, c.requires.ends)

pub returns : goal.returns
returns g c =
    let joined = c.join_all.ensures.ends in
    let end = c.end_first-end.result in
    let put = c.push_reserved.ensures.items ∙ ap (λ them. them ++ end ∷ []) c.requires.empty.2 in
    subst (λ them. AreOver g.L.Lane.ran g.L.Lane.quitted c.args.first c.args.others.items c.start_all-all.result them)
    (sym (c.put_behind.ensures ∙ ap (λ them. them ++ c.start_all-all.new.over.items) (joined.1 ∙ ap (λ them. them ++ joined.0) put)))
    (all_over _ _ _ _ _ _ _ _ _ _ c.start_all-all.ensures.started c.end_first-end.ensures.ran c.end_first-end.ensures.quitted joined.2)
