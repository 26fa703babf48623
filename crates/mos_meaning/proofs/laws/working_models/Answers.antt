-- each by its lemma
use Rattle.mos_meaning.proofs.WorkingModels.{never_stuck, never_lost, calls_nothing}
use Rattle.mos_meaning.proofs.laws.working_models.Goals as goal

pub returns : goal.returns
returns c = record { never_stuck = never_stuck; never_lost = never_lost; calls_nothing = calls_nothing }
