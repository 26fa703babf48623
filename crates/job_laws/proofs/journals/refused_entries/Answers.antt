-- the call does not fit, or the answer is another one
use Rattle.std.proofs.Common.{◌≡◌, ℕ, refl, arith}
use Rattle.job_laws.proofs.journals.refused_entries.Goals as goal

pub returns-clause-unheld_run : goal.returns-clause-unheld_run
returns-clause-unheld_run c = λ h. let f = h.fit in cc

pub returns-clause-another_run : goal.returns-clause-another_run
returns-clause-another_run c = λ h. let a = h.answered in let e : ◌≡◌ {A = ℕ} 0 1 = cc in absurd (omega (arith, e))

pub returns-clause-other_lane_waits : goal.returns-clause-other_lane_waits
returns-clause-other_lane_waits c = refl

pub returns-clause-not_done_yet : goal.returns-clause-not_done_yet
returns-clause-not_done_yet c = λ h. let a = h.answered in cc

pub returns-clause-after_the_end : goal.returns-clause-after_the_end
returns-clause-after_the_end c = λ h. let f = h.fit in cc
