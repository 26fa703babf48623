-- behind none it stands alone
use Rattle.std.proofs.Common.{[], ◌∷◌, refl, ap, sym, subst, ◌∙◌}
use Rattle.mos_text.specs.declared.scalar.Scalar.TheVariants.{Str}
use Rattle.mos_value.specs.Indexes.{GrowsBy, texts}
use Rattle.mos_value.proofs.index.first_text.Goals as goal

pub returns-in-Ok : goal.returns-in-Ok
returns-in-Ok c =
    c.texts_with.ensures (Str c.args.text.now ∷ [])
    (subst (λ before. GrowsBy before (Str c.args.text.now) (Str c.args.text.now ∷ []))
    (sym (ap (λ s. texts s.keys) c.in-Ok.ensures.ok ∙ ap texts c.new.ensures.empty)) (refl, refl))
