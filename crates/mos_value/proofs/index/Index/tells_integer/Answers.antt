-- each index tells by what it says of the items
use Rattle.std.proofs.Common.{ap, sym, subst, ◌∙◌, rules}
use Rattle.std.specs.Prelude.{◌≤ℤ◌, ◌↔◌, IsTrue}
use Rattle.std.specs.Ordering.{int_eq}
use Rattle.std.specs.Int.RustNames.{FitsSigned}
use Rattle.std.proofs.lemmas.Int.{to_z-of_z}
use mir.Syntax.{w32}
use mir.Val.{to_z, of_z}
use Rattle.indexmap.specs.IndexSet.{contains_by}
use Rattle.mos_text.specs.declared.scalar.Scalar.TheVariants.{Int}
use Rattle.mos_value.specs.Sets.{has_member}
use Rattle.mos_value.proofs.IndexLemmas.{has_member-map, run-tells}
use Rattle.mos_value.proofs.index.Index.tells_integer.Goals as goal

pub returns-in-Empty : goal.returns-in-Empty
returns-in-Empty c = rw c.in-Empty.is (λ items none. sym (ap (has_member (Int c.args.number)) none))

pub returns-in-Run : goal.returns-in-Run
returns-in-Run c =
    let fits_first : FitsSigned w32 c.in-Run.first = search rules in
    let fits_last : FitsSigned w32 c.in-Run.last = search rules in
    let fits_number : FitsSigned w32 c.args.number = search rules in
    let ef = to_z-of_z w32 c.in-Run.first fits_first in
    let el = to_z-of_z w32 c.in-Run.last fits_last in
    let en = to_z-of_z w32 c.args.number fits_number in
    let between : IsTrue c.range_has.result ↔ (c.in-Run.first ≤ℤ c.args.number) × (c.args.number ≤ℤ c.in-Run.last) =
    subst (λ n. IsTrue c.range_has.result ↔ (c.in-Run.first ≤ℤ n) × (n ≤ℤ c.in-Run.last)) en
    (subst (λ last. IsTrue c.range_has.result ↔ (c.in-Run.first ≤ℤ to_z w32 (of_z w32 c.args.number)) × (to_z w32 (of_z w32 c.args.number) ≤ℤ last)) el
    (subst (λ first. IsTrue c.range_has.result ↔ (first ≤ℤ to_z w32 (of_z w32 c.args.number)) × (to_z w32 (of_z w32 c.args.number) ≤ℤ to_z w32 (of_z w32 c.in-Run.last))) ef
    c.range_has.ensures)) in
    rw c.in-Run.is (λ items is. run-tells c.in-Run.first c.in-Run.last c.args.number items c.range_has.result between is.1)

pub returns-in-Integers : goal.returns-in-Integers
returns-in-Integers c =
    let fits : FitsSigned w32 c.args.number = search rules in
    let en = to_z-of_z w32 c.args.number fits in
    rw c.in-Integers.is
    (λ items is.
    c.contains.ensures
    ∙ ((λ i. contains_by (int_eq (en i)) (c.deref.ensures i))
    ∙ (has_member-map (λ n. Int n) (Int c.args.number) c.in-Integers.numbers.value.keys ∙ ap (has_member (Int c.args.number)) is)))
