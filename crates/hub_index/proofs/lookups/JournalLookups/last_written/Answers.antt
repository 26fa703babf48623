use Rattle.std.proofs.Common.{◌≡◌, ◌<◌, ◌^◌, ℕ, List, Some, ap, ◌∙◌, sym, subst, length, arith, rules}
use Rattle.std.specs.Prelude.{option_map}
use Rattle.mos_text.specs.declared.place.Place.{Place}
use Rattle.job_calls.specs.declared.entry.Entry.{Entry}
use Rattle.job_calls.specs.Blocks.{writes, last_write}
use Rattle.hub_words.specs.Small.{IsSmall}
use Rattle.hub_index.proofs.Places.{IsIn, last_in}
use Rattle.hub_index.proofs.lookups.JournalLookups.last_written.Goals as goal

pub written_at-requires : goal.written_at-requires
written_at-requires c =
    let journal = c.self.inside.entries.items in
    let name = c.args.name.now in
    let at : last_write name journal ≡ Some c.in-Some.field-0.0 =
    sym (c.last_of.ensures journal (search rules)) ∙ ap (λ o. option_map (λ (place : Place). place.0) o) c.in-Some.is in
    let within : c.in-Some.field-0.0 < length journal = subst (λ o. IsIn o journal) at (last_in (λ e. writes name e.call e.reply) journal) in
    let small : length journal < 2 ^ 31 = (subst (λ (v : List Entry × ℕ). IsSmall v.0) (sym c.self.view_is) c.requires).0 in
    omega (arith, within, small)
