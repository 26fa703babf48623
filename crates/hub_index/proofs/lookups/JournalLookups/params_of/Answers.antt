use Rattle.std.proofs.Common.{◌≡◌, ℕ, List, Option, ap, ◌∙◌, subst}
use Rattle.std.specs.Prelude.{option_and_then, option_copied, option_map, slice_get}
use Rattle.job_calls.specs.declared.entry.Entry.{Entry}
use Rattle.job_calls.specs.Runs.{Start, start_of_run, params_of}
use Rattle.hub_index.proofs.Places.{params_found}
use Rattle.hub_index.proofs.lookups.JournalLookups.params_of.Goals as goal

-- the parameter text that the entry at this place gives
abbrev given : ℕ → List Entry → ℕ → Option (List ℕ)
given run journal n = option_and_then (λ e. option_map (λ (start : Start). start.params) (start_of_run run e)) (slice_get journal n)

pub returns : goal.returns
returns c =
    let journal = c.self.inside.entries.items in
    let run = c.args.run in
    let found = subst (λ es. option_copied c.params_at.result ≡ option_and_then (given run es) (option_map (λ place. place.0) c.start_of.result))
    c.deref-2.ensures.value c.params_at.ensures in
    subst (λ (v : List Entry × ℕ). option_copied c.params_at.result ≡ params_of run v.0) c.self.view_is
    (found ∙ ap (option_and_then (given run journal)) (c.start_of.ensures journal c.self.invariant.1.models) ∙ params_found run journal c.if-run-eq0.false)
