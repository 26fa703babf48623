use Rattle.std.proofs.Common.{◌∙◌, ap, sym, ◌&&◌, ◌||◌}
use Rattle.job_calls.specs.Entries.{is_run, is_finish, own_entries}
use Rattle.job_calls.specs.Fitting.{may_call, exchange_of, held_run}
use Rattle.hub_index.proofs.Legal.{is_run-some}
use Rattle.hub_index.proofs.Held.{same_exchange}
use Rattle.hub_index.proofs.index.HubIndex.run_fits.Goals as goal

pub returns : goal.returns
returns c = λ journal stands legal.
    let call = c.args.call.now in
    let own = own_entries c.args.lane journal in
    let holds = ap (is_run c.args.run) (sym (c.held_run.ensures journal stands.models)) ∙ sym c.is_run.ensures ∙ c.if-not-is_run.false in
    let same = same_exchange c.one_lane_a_run.ensures journal c.args.lane c.args.run legal (is_run-some c.args.run (held_run own) holds) in
    c.may_act.ensures journal stands ∙ ap (λ told. is_finish call || may_call told call) (sym same)
    ∙ sym (ap (λ b. b && (is_finish call || may_call (exchange_of c.args.run own) call)) holds)
