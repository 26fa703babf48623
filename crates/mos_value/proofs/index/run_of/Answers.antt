-- there are none, or a first one
use Rattle.std.proofs.Common.{arith, rules}
use Rattle.std.specs.Prelude.{◌<ℤ◌}
use Rattle.std.specs.Int.RustNames.{FitsSigned}
use Rattle.std.proofs.lemmas.Int.{ints, to_z-of_z}
use mir.Syntax.{w32}
use mir.Val.{to_z, of_z}
use Rattle.mos_value.specs.Ranges.{range_members}
use Rattle.mos_value.proofs.RangeLemmas.{range_members-none, below_if, not_below_if}
use Rattle.mos_value.proofs.index.run_of.Goals as goal

pub returns-then-last-first : goal.returns-then-last-first
returns-then-last-first c =
    let fits_first : FitsSigned w32 c.args.first = search rules in
    let fits_last : FitsSigned w32 c.args.last = search rules in
    let below = below_if (to_z w32 (of_z w32 c.args.last)) (to_z w32 (of_z w32 c.args.first)) c.if-last-first.true in
    let none : c.args.last <ℤ c.args.first =
    omega (arith, ints, below, to_z-of_z w32 c.args.first fits_first, to_z-of_z w32 c.args.last fits_last) in
    range_members-none c.args.first c.args.last none

pub returns-else-last-first : goal.returns-else-last-first
returns-else-last-first c =
    let fits_first : FitsSigned w32 c.args.first = search rules in
    let fits_last : FitsSigned w32 c.args.last = search rules in
    let some = not_below_if (to_z w32 (of_z w32 c.args.last)) (to_z w32 (of_z w32 c.args.first)) c.if-last-first.false in
    (some, λ i. range_members (to_z-of_z w32 c.args.first fits_first i) (to_z-of_z w32 c.args.last fits_last i))
