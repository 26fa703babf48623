-- the same bounds, or no integers in either
use Rattle.std.proofs.Common.{◌≡◌, ap, sym, ◌∙◌, ⊎_elim, true≢false, arith, rules}
use Rattle.std.specs.Prelude.{◌≤ℤ◌, ◌<ℤ◌}
use Rattle.std.specs.Int.RustNames.{FitsSigned}
use Rattle.std.proofs.lemmas.Int.{ints, to_z-of_z}
use mir.Syntax.{w32}
use mir.Val.{to_z, of_z}
use Rattle.mos_value.proofs.RangeLemmas.{same-if_none, same-bounds, below_if, not_below_if}
use Rattle.mos_value.proofs.ranges.same_range.Goals as goal

pub returns-then-a : goal.returns-then-a
returns-then-a c =
    let f : FitsSigned w32 c.args.a.0 = search rules in
    let g : FitsSigned w32 c.args.a.1 = search rules in
    let f' : FitsSigned w32 c.args.b.0 = search rules in
    let g' : FitsSigned w32 c.args.b.1 = search rules in
    let below = below_if (to_z w32 (of_z w32 c.args.a.1)) (to_z w32 (of_z w32 c.args.a.0)) c.if-a.true in
    let none : c.args.a.1 <ℤ c.args.a.0 = omega (arith, ints, below, to_z-of_z w32 c.args.a.0 f, to_z-of_z w32 c.args.a.1 g) in
    same-if_none c.args.a.0 c.args.a.1 c.args.b.0 c.args.b.1 (to_z w32 (of_z w32 c.args.b.0)) (to_z w32 (of_z w32 c.args.b.1))
    (to_z-of_z w32 c.args.b.0 f') (to_z-of_z w32 c.args.b.1 g') none

pub returns-else-a : goal.returns-else-a
returns-else-a c =
    let f : FitsSigned w32 c.args.a.0 = search rules in
    let g : FitsSigned w32 c.args.a.1 = search rules in
    let over = not_below_if (to_z w32 (of_z w32 c.args.a.1)) (to_z w32 (of_z w32 c.args.a.0)) c.if-a.false in
    let some : c.args.a.0 ≤ℤ c.args.a.1 = omega (arith, ints, over, to_z-of_z w32 c.args.a.0 f, to_z-of_z w32 c.args.a.1 g) in (
      λ h. absurd (true≢false (sym h ∙ c.if-a.false)),
      λ e.
          absurd
          (⊎_elim (λ (w : (c.args.a.1 <ℤ c.args.a.0) × (c.args.b.1 <ℤ c.args.b.0)). omega (arith, ints, some, w.0))
          (λ (w : (c.args.a.0 ≡ c.args.b.0) × (c.args.a.1 ≡ c.args.b.1)).
          ⊎_elim (λ v. v.1 (ap (of_z w32) w.1)) (λ v. v (ap (of_z w32) w.0)) c.if-a-b-2.either)
          (same-bounds c.args.a.0 c.args.a.1 c.args.b.0 c.args.b.1 e)),
    )
