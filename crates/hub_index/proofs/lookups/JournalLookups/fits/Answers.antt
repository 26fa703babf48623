use Rattle.std.proofs.Common.{◌≡◌, ◌<◌, ◌&&◌, ℕ, List, ap, ◌∙◌, sym, subst}
use Rattle.job_calls.specs.declared.entry.Entry.{Entry}
use Rattle.job_calls.specs.Entries.{own_entries}
use Rattle.job_calls.specs.Fitting.{fits, call_fits}
use Rattle.job_calls.specs.Runs.{opening}
use Rattle.hub_index.proofs.Noted.{is_below}
use Rattle.hub_index.proofs.lookups.JournalLookups.fits.Goals as goal

pub returns-then-lane-lanes : goal.returns-then-lane-lanes
returns-then-lane-lanes c =
    let journal = c.self.inside.entries.items in
    let below = is_below c.args.lane (opening journal) (subst (λ n. c.args.lane < n) c.lanes.ensures c.if-lane-lanes.true) in
    subst (λ (v : List Entry × ℕ). c.call_fits.result ≡ fits (opening v.0) (own_entries c.args.lane v.0) c.args.lane c.args.run c.args.call.now) c.self.view_is
    (c.call_fits.ensures journal c.self.invariant.1 c.self.invariant.0
    ∙ sym (ap (λ b. b && call_fits (own_entries c.args.lane journal) c.args.run c.args.call.now) below))
