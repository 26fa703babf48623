-- what the closure keeps is what the filter keeps
use Rattle.std.proofs.Common.{ap, subst, sym, ◌∙◌, not, if◌then◌else◌, rules}
use Rattle.std.proofs.lemmas.Fn.{filter_same}
use Rattle.mos_value.specs.Sets.{has_member}
use Rattle.mos_value.specs.Indexes.{IsIndexOf, kept}
use Rattle.mos_value.proofs.items.Items.keep.Goals as goal

pub returns-clause-kept : goal.returns-clause-kept
returns-clause-kept c =
    filter_same _ (λ x. if c.args.are then has_member x c.args.others.now else not (has_member x c.args.others.now)) _ (λ x b f' k. search rules) _ _
    c.retain.ensures.filtered
    ∙ ap (kept c.args.are c.args.others.now) c.self.view_is

pub invariant_of-self : goal.invariant_of-self
invariant_of-self c =
    let left =
    filter_same _ (λ x. if c.args.are then has_member x c.args.others.now else not (has_member x c.args.others.now)) _ (λ x b f' k. search rules) _ _
    c.retain.ensures.filtered in
    (search rules, subst (IsIndexOf c.kept.result) c.as_slice.ensures.value (c.kept.ensures c.self.inside.scalars.items (subst (λ index. IsIndexOf index c.self.inside.scalars.items) (sym c.replace-index.ensures.value) c.self.invariant.1) (c.as_slice.ensures.value ∙ left)))
