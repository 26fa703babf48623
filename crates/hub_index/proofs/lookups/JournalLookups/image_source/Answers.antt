use Rattle.std.proofs.Common.{◌≡◌, ℕ, List, Option, ap, ◌∙◌, subst}
use Rattle.std.specs.Prelude.{option_and_then, option_map, slice_get}
use Rattle.job_calls.specs.declared.entry.Entry.{Entry}
use Rattle.job_calls.specs.Files.{file_at}
use Rattle.job_calls.specs.Models.{compiled_to, image_source}
use Rattle.hub_index.proofs.Places.{source_found}
use Rattle.hub_index.proofs.lookups.JournalLookups.image_source.Goals as goal

-- the source of the image that the entry at this place made
abbrev source : List ℕ → List Entry → Option ℕ → Option ℕ
source file journal place =
    option_and_then (λ src. file_at src journal)
    (option_and_then (λ n. option_and_then (λ (e : Entry). compiled_to file e.call e.reply) (slice_get journal n)) place)

pub returns : goal.returns
returns c =
    let journal = c.self.inside.entries.items in
    let file = c.args.file.now in
    let found = subst (λ es. c.source_at.result ≡ source file es (option_map (λ place. place.0) c.image_of.result)) c.deref.ensures.value c.source_at.ensures in
    subst (λ (v : List Entry × ℕ). c.source_at.result ≡ image_source file v.0) c.self.view_is
    (found ∙ ap (source file journal) (c.image_of.ensures journal c.self.invariant.1.models)
    ∙ ap (option_and_then (λ src. file_at src journal)) (source_found file journal))
