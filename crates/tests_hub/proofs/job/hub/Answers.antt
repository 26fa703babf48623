-- the opening was looked at
use Rattle.std.proofs.Common.{subst, rules}
use Rattle.job_calls.specs.Legal.{CanOpen}
use Rattle.tests_hub.proofs.job.hub.Goals as goal

pub new-requires : goal.new-requires
new-requires c =
    subst (λ files. CanOpen (record { lanes = c.args.lanes; budget = c.args.budget; params = c.in_ok-text.field-0; files = files })) c.as_slice.ensures
    (c.can_open.ensures.yes (search rules) c.in_ok-text.field-0)
