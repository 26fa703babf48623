-- the next integer lengthens the run; with another the items are a set of integers
use Rattle.std.proofs.Common.{◌≡◌, ap, sym, subst, ◌∙◌, pos, ◌+ℤ◌, rules}
use Rattle.std.specs.Prelude.{◌≤ℤ◌}
use Rattle.std.specs.Int.RustNames.{FitsSigned}
use Rattle.std.proofs.lemmas.Int.{to_z-of_z}
use mir.Syntax.{w32}
use mir.Val.{to_z, of_z}
use Rattle.mos_text.specs.declared.scalar.Scalar.TheVariants.{Int}
use Rattle.mos_value.specs.Indexes.{GrowsBy}
use Rattle.mos_value.specs.Ranges.{range_members}
use Rattle.mos_value.proofs.IndexLemmas.{run-grows, run-once, set-grows}
use Rattle.mos_value.proofs.index.run_with.Goals as goal

pub returns-then-is_next : goal.returns-then-is_next
returns-then-is_next c = λ items is grows.
    let fits_number : FitsSigned w32 c.args.number = search rules in
    let fits_first : FitsSigned w32 c.args.first = search rules in
    let fits_last : FitsSigned w32 c.args.last = search rules in
    let en = to_z-of_z w32 c.args.number fits_number in
    let ef = to_z-of_z w32 c.args.first fits_first in
    let el = to_z-of_z w32 c.args.last fits_last in
    let next : c.args.number ≡ c.args.last +ℤ pos 1 = sym en ∙ ((rw c.if-is_next.true at c.is_next.ensures) ∙ ap (λ z. z +ℤ pos 1) el) in
    let grown = run-grows c.args.first c.args.last c.args.number c.args.after.now is.0 next
    (subst (λ those. GrowsBy those (Int c.args.number) c.args.after.now) (sym is.1) grows) in
    subst (λ first. (first ≤ℤ to_z w32 (of_z w32 c.args.number)) × (range_members first (to_z w32 (of_z w32 c.args.number)) ≡ c.args.after.now)) (sym ef)
    (subst (λ number. (c.args.first ≤ℤ number) × (range_members c.args.first number ≡ c.args.after.now)) (sym en) grown)

pub returns-else-is_next : goal.returns-else-is_next
returns-else-is_next c = λ items is grows.
    c.integers_of.ensures
    (set-grows (range_members c.args.first c.args.last) c.args.after.now (Int c.args.number) (run-once c.args.first c.args.last)
    (subst (λ those. GrowsBy those (Int c.args.number) c.args.after.now) (sym is.1) grows))
