-- the items that grow are those of the index
use Rattle.std.proofs.Common.{◌≡◌, sym, subst, rules}
use Rattle.std.specs.Prelude.{◌≤ℤ◌}
use Rattle.std.specs.Int.RustNames.{FitsSigned}
use Rattle.std.proofs.lemmas.Int.{to_z-of_z}
use mir.Syntax.{w32}
use Rattle.mos_text.specs.declared.scalar.Scalar.TheVariants.{Int}
use Rattle.mos_value.specs.Indexes.{GrowsBy, integers}
use Rattle.mos_value.specs.Ranges.{range_members}
use Rattle.mos_value.proofs.IndexLemmas.{run-begins}
use Rattle.mos_value.proofs.index.Index.with_integer.Goals as goal

pub returns-in-Empty : goal.returns-in-Empty
returns-in-Empty c =
    let fits : FitsSigned w32 c.args.number = search rules in
    rw c.in-Empty.is
    (λ items none grows.
    subst (λ n. (n ≤ℤ n) × (range_members n n ≡ c.args.after.now)) (sym (to_z-of_z w32 c.args.number fits))
    (run-begins c.args.number items c.args.after.now none grows))

pub returns-in-Integers : goal.returns-in-Integers
returns-in-Integers c =
    let fits : FitsSigned w32 c.args.number = search rules in
    rw c.in-Integers.is
    (λ items is grows.
    c.integers_with.ensures c.args.after.now
    (subst (λ n. GrowsBy (integers c.in-Integers.numbers.value.keys) (Int n) c.args.after.now) (sym (to_z-of_z w32 c.args.number fits))
    (subst (λ those. GrowsBy those (Int c.args.number) c.args.after.now) (sym is) grows)))
