-- what is noted goes behind
use Rattle.std.proofs.Common.{ap, ◌∙◌}
use Rattle.mos_text.specs.declared.scalar.Scalar.TheVariants.{Str}
use Rattle.mos_value.specs.Sets.{with_member}
use Rattle.mos_value.specs.Indexes.{texts}
use Rattle.mos_value.proofs.IndexLemmas.{grows-with}
use Rattle.mos_value.proofs.index.texts_with.Goals as goal

pub returns-then-note_text : goal.returns-then-note_text
returns-then-note_text c = λ after grows.
    grows-with (texts c.args.texts.value.keys) (texts c.note_text.new.texts.keys) after (Str c.args.text.now)
    ((rw c.if-note_text.true at c.note_text.ensures)
    ∙ ap (λ s. with_member (texts s.keys) (Str c.args.text.now)) c.deref_mut.ensures.value) grows
