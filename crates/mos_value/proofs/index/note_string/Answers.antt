-- a text is noted as its scalar is
use Rattle.std.proofs.Common.{ap, ◌∙◌}
use Rattle.std.specs.Prelude.{string_bytes}
use Rattle.mos_text.specs.declared.scalar.Scalar.TheVariants.{Str}
use Rattle.mos_value.specs.Indexes.{texts}
use Rattle.mos_value.proofs.IndexLemmas.{with_member-map}
use Rattle.mos_value.proofs.index.note_string.Goals as goal

pub returns-in-Ok : goal.returns-in-Ok
returns-in-Ok c =
    ap texts c.in-Ok.ensures.keys ∙ with_member-map (λ s. Str (string_bytes s)) c.args.texts.now.keys c.args.string
