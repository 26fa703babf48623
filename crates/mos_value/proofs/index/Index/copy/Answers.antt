-- copies of texts are the same texts
use Rattle.std.proofs.Common.{subst, ◌∙◌}
use Rattle.mos_value.specs.Indexes.{IsIndexOf}
use Rattle.mos_value.proofs.IndexLemmas.{texts-same}
use Rattle.mos_value.proofs.index.Index.copy.Goals as goal

pub returns-in-Ok-clone : goal.returns-in-Ok-clone
returns-in-Ok-clone c = λ items is.
    texts-same c.in-Texts.texts.value.keys c.in-Ok-clone.copied.value.keys c.in-Ok-clone.ensures.cases
    ∙ subst (λ index. IsIndexOf index items) c.in-Texts.is is
