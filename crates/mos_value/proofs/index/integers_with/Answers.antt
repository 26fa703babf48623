-- what is noted goes behind
use Rattle.std.proofs.Common.{◌∙◌, rules}
use Rattle.std.specs.Int.RustNames.{FitsSigned}
use Rattle.std.proofs.lemmas.Int.{to_z-of_z}
use mir.Syntax.{w32}
use Rattle.mos_text.specs.declared.scalar.Scalar.TheVariants.{Int}
use Rattle.mos_value.specs.Sets.{with_member}
use Rattle.mos_value.specs.Indexes.{integers}
use Rattle.mos_value.proofs.IndexLemmas.{grows-with}
use Rattle.mos_value.proofs.index.integers_with.Goals as goal

pub returns-then-note_integer : goal.returns-then-note_integer
returns-then-note_integer c = λ after grows.
    let fits : FitsSigned w32 c.args.number = search rules in
    let en = to_z-of_z w32 c.args.number fits in
    grows-with (integers c.args.numbers.value.keys) (integers c.note_integer.new.numbers.keys) after (Int c.args.number)
    ((rw c.if-note_integer.true at c.note_integer.ensures) ∙ (λ i. with_member (integers (c.deref_mut.ensures.value i).keys) (Int (en i)))) grows
