-- the opening was looked at
use Rattle.std.proofs.Common.{subst, rules}
use Rattle.job_calls.specs.Legal.{CanOpen}
use Rattle.tests_threads.proofs.jobs.open.Goals as goal

pub new-requires-2 : goal.new-requires-2
new-requires-2 c =
    subst (λ files. CanOpen (record { lanes = 3; budget = 100; params = c.from_string-params.result; files = files })) c.as_slice.ensures
    (c.can_open.ensures.yes (search rules) c.from_string-params.result)
