-- an integer is noted as its scalar is
use Rattle.std.proofs.Common.{ap, ◌∙◌, rules}
use Rattle.std.specs.Ordering.{int_eq}
use Rattle.std.specs.Int.RustNames.{FitsSigned}
use Rattle.std.proofs.lemmas.Int.{to_z-of_z}
use mir.Syntax.{w32}
use Rattle.indexmap.specs.IndexSet.{insert_key}
use Rattle.mos_text.specs.declared.scalar.Scalar.TheVariants.{Int}
use Rattle.mos_value.specs.Indexes.{integers}
use Rattle.mos_value.proofs.IndexLemmas.{with_member-map}
use Rattle.mos_value.proofs.index.note_integer.Goals as goal

pub returns-in-Ok : goal.returns-in-Ok
returns-in-Ok c =
    let fits : FitsSigned w32 c.in-Int.number = search rules in
    rw c.in-Int.is
    (ap integers c.in-Ok.ensures.keys
    ∙ (ap (λ n. integers (insert_key int_eq c.args.numbers.now.keys n)) (to_z-of_z w32 c.in-Int.number fits)
    ∙ with_member-map (λ n. Int n) c.args.numbers.now.keys c.in-Int.number))
