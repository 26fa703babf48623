-- each index tells by what it says of the items
use Rattle.std.proofs.Common.{ap, sym, ◌∙◌}
use Rattle.std.specs.Prelude.{string_bytes}
use Rattle.std.specs.Str.{bytes_eq}
use Rattle.indexmap.specs.IndexSet.{contains_by}
use Rattle.mos_text.specs.declared.scalar.Scalar.TheVariants.{Str}
use Rattle.mos_value.specs.Sets.{has_member}
use Rattle.mos_value.proofs.IndexLemmas.{has_member-map}
use Rattle.mos_value.proofs.index.Index.tells_text.Goals as goal

pub returns-in-Empty : goal.returns-in-Empty
returns-in-Empty c = rw c.in-Empty.is (λ items none. sym (ap (has_member (Str c.args.text.now)) none))

pub returns-in-Texts : goal.returns-in-Texts
returns-in-Texts c =
    rw c.in-Texts.is
    (λ items is.
    c.contains.ensures
    ∙ (ap (contains_by (λ k. bytes_eq c.as_str.result.now (string_bytes k))) c.deref.ensures
    ∙ (has_member-map (λ s. Str (string_bytes s)) (Str c.as_str.result.now) c.in-Texts.texts.value.keys
    ∙ (λ i. has_member (Str (c.as_str.ensures.value i)) (is i)))))
