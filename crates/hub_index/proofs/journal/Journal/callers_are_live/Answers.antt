use Rattle.std.proofs.Common.{List, subst}
use Rattle.std.specs.Prelude.{ℕ}
use Rattle.job_calls.specs.declared.entry.Entry.{Entry}
use Rattle.job_calls.specs.Legal.{IsLegal}
use Rattle.hub_index.proofs.Held.{caller_given, caller_lives}
use Rattle.hub_index.proofs.journal.Journal.callers_are_live.Goals as goal

pub returns-clause-given : goal.returns-clause-given
returns-clause-given c = λ lane run call may. caller_given c.args.self.now.0 lane run call may

pub returns-clause-live : goal.returns-clause-live
returns-clause-live c = λ lane run call may.
    caller_lives c.grows.ensures c.given_in_order.ensures c.one_lane_a_run.ensures c.args.self.now.0 lane run call
    (subst (λ (v : List Entry × ℕ). IsLegal v.0) c.self.view_is c.self.invariant.0) may
