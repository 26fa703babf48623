-- what is kept of the integers is what is kept of their scalars
use Rattle.std.proofs.Common.{ap, ◌∙◌, not, if◌then◌else◌, rules}
use Rattle.std.proofs.lemmas.Fn.{filter_same}
use Rattle.mos_text.specs.declared.scalar.Scalar.TheVariants.{Int}
use Rattle.mos_value.specs.Sets.{has_member}
use Rattle.mos_value.specs.Indexes.{integers, kept}
use Rattle.mos_value.proofs.IndexLemmas.{filter-map}
use Rattle.mos_value.proofs.index.integers_kept.Goals as goal

pub returns : goal.returns
returns c =
    ap integers
    (filter_same _ (λ n. if c.args.are then has_member (Int n) c.args.others.now else not (has_member (Int n) c.args.others.now)) _
    (λ x b f' k. search rules) _ _ c.retain.ensures.filtered)
    ∙ (filter-map (λ n. Int n) (λ x. if c.args.are then has_member x c.args.others.now else not (has_member x c.args.others.now))
    c.deref_mut.result.now.keys
    ∙ ap (λ s. kept c.args.are c.args.others.now (integers s.keys)) c.deref_mut.ensures.value)
