-- one more lane is told that the job is done
use Rattle.std.proofs.Common.{◌≡◌, ◌<◌, ◌-◌, ◌+◌, ◌++◌, ◌∷◌, [], ℕ, suc, ◌∙◌, ap, sym, append_assoc, arith}
use Rattle.lane_step.specs.Schedule.{done_entries, done_entry}
use Rattle.lane_step.proofs.schedule.schedule.Goals as goal

dones_next : (lane lanes : ℕ) → lane < lanes → done_entries lane (lanes - lane) ≡ done_entry lane ∷ done_entries (lane + 1) (lanes - (lane + 1))
dones_next lane lanes less =
    let e : lanes - lane ≡ suc (lanes - (lane + 1)) = omega arith in ap (done_entries lane) e

pub loop-lane-preserved : goal.loop-lane-preserved
loop-lane-preserved c =
    let journal = c.loop-lane.journal in
    let lane = c.loop-lane.lane in
    let rest = done_entries (lane + 1) (c.args.lanes - (lane + 1)) in
    ap (λ js. js ++ rest) (c.in_ok-push-4.ensures.ok ∙ ap (λ e. journal ++ e ∷ []) c.done.ensures)
    ∙ append_assoc journal (done_entry lane ∷ []) rest
    ∙ ap (λ es. journal ++ es) (sym (dones_next lane c.args.lanes c.loop-lane-test.true))
    ∙ c.loop-lane.invariant
