-- Rules that are noted one behind the other count as all together.
use Rattle.std.proofs.Common.{◌≡◌, List, [], ◌∷◌, ◌++◌, Option, refl}
use Rattle.mos_text.specs.declared.kind.Kind.{Kind}
use Rattle.mos_sorts.specs.Kinds.{sooner, least}

pub least_append : (worst : Option Kind) (before after : List Kind) → least (least worst before) after ≡ least worst (before ++ after)
least_append worst [] after = refl
least_append worst (kind ∷ before) after = least_append (sooner worst kind) before after
