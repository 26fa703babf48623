-- the items that grow are those of the index
use Rattle.std.proofs.Common.{[], ◌∷◌, ◌++◌, ap, sym, subst, ◌∙◌}
use Rattle.mos_text.specs.declared.scalar.Scalar.TheVariants.{Str}
use Rattle.mos_value.specs.Indexes.{IsIndexOf, GrowsBy}
use Rattle.mos_value.proofs.index.Index.with_text.Goals as goal

pub returns-in-Empty : goal.returns-in-Empty
returns-in-Empty c =
    rw c.in-Empty.is
    (λ after items none grows.
    subst (IsIndexOf c.first_text.result) (sym (grows.1 ∙ ap (λ before. before ++ Str c.args.text.now ∷ []) none)) c.first_text.ensures)

pub returns-in-Texts : goal.returns-in-Texts
returns-in-Texts c =
    rw c.in-Texts.is
    (λ after items is grows. c.texts_with.ensures after (subst (λ those. GrowsBy those (Str c.args.text.now) after) (sym is) grows))
