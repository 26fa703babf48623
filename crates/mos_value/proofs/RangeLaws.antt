-- the laws of ranges
use Rattle.std.proofs.Common.{◌≡◌, ℕ, zero, suc, ℤ, pos, ◌+ℤ◌, Bool, true, false, length, refl, ap, sym, ◌∙◌, true≢false, arith, ⊎_elim}
use Rattle.std.specs.Prelude.{◌≤ℤ◌, ◌<ℤ◌, ◌||◌}
use Rattle.std.specs.Ordering.{int_eq}
use Rattle.std.proofs.lemmas.Int.{ints}
use Rattle.std.proofs.lemmas.Bool.Decides.{Decides-int_eq}
use Rattle.mos_text.specs.declared.scalar.Scalar.TheVariants.{Int}
use Rattle.mos_value.specs.Values.{integers_from}
use Rattle.mos_value.specs.Sets.{has_member, IsSet}
use Rattle.mos_value.specs.Ranges.{range_count, range_members}
use Rattle.mos_value.specs.Laws.{RangeHasItsSize, RangeHasJustBetween}
use Rattle.mos_value.proofs.SetLaws.{set_stays}
use Rattle.mos_value.proofs.RangeLemmas.{length-integers_from, count_end, count_none, below_or_not}

-- what is among so many integers is none below the first and none behind the last
between : (x n : ℤ) (many : ℕ) → has_member (Int x) (integers_from n many) ≡ true → (n ≤ℤ x) × (x <ℤ (n +ℤ pos many))
between x n zero is = absurd (true≢false (sym is))
between x n (suc many) is =
    by (int_eq x n) refl (λ e. between x (n +ℤ pos 1) many (ap (λ b. b || has_member (Int x) (integers_from (n +ℤ pos 1) many)) (sym e) ∙ is))
  where
    by : (same : Bool) → int_eq x n ≡ same
        → (int_eq x n ≡ false → ((n +ℤ pos 1) ≤ℤ x) × (x <ℤ ((n +ℤ pos 1) +ℤ pos many))) → (n ≤ℤ x) × (x <ℤ (n +ℤ pos (suc many)))
    by true e rest =
        let equal = (Decides-int_eq x n).0 e in
        (omega (arith, ints, equal), omega (arith, ints, equal))
    by false e rest =
        let h = rest e in
        (omega (arith, ints, h.0), omega (arith, ints, h.1))

-- and the other way round
among : (x n : ℤ) (many : ℕ) → n ≤ℤ x → x <ℤ (n +ℤ pos many) → has_member (Int x) (integers_from n many) ≡ true
among x n zero low high = absurd (omega (arith, ints))
among x n (suc many) low high = by (int_eq x n) refl (λ more. among x (n +ℤ pos 1) many more (omega (arith, ints, high)))
  where
    higher : (x ≡ n → ⊥) → (n +ℤ pos 1) ≤ℤ x
    higher apart = omega (arith, ints, low, apart)

    by : (same : Bool) → int_eq x n ≡ same
        → ((n +ℤ pos 1) ≤ℤ x → has_member (Int x) (integers_from (n +ℤ pos 1) many) ≡ true)
        → (same || has_member (Int x) (integers_from (n +ℤ pos 1) many)) ≡ true
    by true e rest = refl
    by false e rest = rest (higher (λ equal. true≢false (sym ((Decides-int_eq x n).1 equal) ∙ e)))

pub IsSet-integers_from : (n : ℤ) (many : ℕ) → IsSet (integers_from n many)
IsSet-integers_from n zero = tt
IsSet-integers_from n (suc many) = (by (has_member (Int n) (integers_from (n +ℤ pos 1) many)) refl, IsSet-integers_from (n +ℤ pos 1) many)
  where
    by : (b : Bool) → has_member (Int n) (integers_from (n +ℤ pos 1) many) ≡ b → b ≡ false
    by false e = refl
    by true e = let h = (between n (n +ℤ pos 1) many e).0 in absurd (omega (arith, ints, h))

pub range_has_its_size : RangeHasItsSize
range_has_its_size first last =
    ap length (set_stays (range_members first last) (IsSet-integers_from first (range_count first last)))
    ∙ length-integers_from first (range_count first last)

pub range_has_just_between : RangeHasJustBetween
range_has_just_between first last x = (to, from)
  where
    to : has_member (Int x) (range_members first last) ≡ true → (first ≤ℤ x) × (x ≤ℤ last)
    to is =
        let h = between x first (range_count first last) is in
        ⊎_elim
        (λ (none : last <ℤ first). let e = count_none first last none in absurd (omega (arith, ints, h.0, h.1, e)))
        (λ (some : first ≤ℤ last). let e = count_end first last some in (h.0, omega (arith, ints, h.1, e)))
        (below_or_not last first)

    from : (first ≤ℤ x) × (x ≤ℤ last) → has_member (Int x) (range_members first last) ≡ true
    from h =
        let some : first ≤ℤ last = omega (arith, ints, h.0, h.1) in
        let e = count_end first last some in
        among x first (range_count first last) h.0 (omega (arith, ints, h.1, e))
