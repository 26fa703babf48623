-- what is known of the entry that was put
use Rattle.hub_core.proofs.Pushed.{says, fits_call, stops}
use Rattle.hub_core.proofs.hub.Hub.act.Goals as goal

pub returns-clause-few : goal.returns-clause-few
returns-clause-few c = c.few_entries.ensures _ c.serve-outcome.ensures.serves.legal

pub returns-clause-laws : goal.returns-clause-laws
returns-clause-laws c = c.legal_keeps_laws.ensures _ c.serve-outcome.ensures.serves.legal

pub returns-clause-says_true : goal.returns-clause-says_true
returns-clause-says_true c =
    says _ _ c.args.lane c.args.run c.args.call c.replies_are_true.ensures c.serve-outcome.result c.serve-outcome.ensures.serves.legal c.serve-outcome.ensures.serves.put

pub returns-clause-stops : goal.returns-clause-stops
returns-clause-stops c =
    stops _ _ c.args.lane c.args.run c.args.call (returns-clause-laws c) c.serve-outcome.result c.serve-outcome.ensures.serves.put

pub returns-clause-fits_call : goal.returns-clause-fits_call
returns-clause-fits_call c =
    fits_call c.answers_fit.ensures _ c.args.lane c.args.run c.args.call c.serve-outcome.result c.in_range.ensures c.serve-outcome.ensures.serves.answered c.requires
