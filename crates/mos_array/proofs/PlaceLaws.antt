-- which cells there are, in which order, and where RANGE comes
use Rattle.std.proofs.Common.{◌≡◌, ◌⊎◌, true≢false, ℕ, Bool, false, [], ◌∷◌, ◌++◌, Option, Some, None, is_some, Err, refl, ap, sym, ◌∙◌, inl, inr, if◌then◌else◌}
use Rattle.std.specs.Prelude.{◌↔◌}
use Rattle.std.proofs.lemmas.List.Sums.{fold-append}
use Rattle.mos_text.specs.declared.fault_kind.FaultKind.TheVariants.{Range}
use Rattle.mos_array.specs.Contents.{place_of, cell_or_default, or_range, with_cell, with_new_cell}
use Rattle.mos_array.specs.Rows.{with_index}
use Rattle.mos_array.specs.Laws.{OrderStays, DenseStays, RangeIsOutside, RangeIsOutsideToo, LastIsFastest}
use Rattle.mos_array.proofs.Outcomes.{Outcome, outcome}

pub order_stays : OrderStays
order_stays at value before after is = by (outcome at value before after is)
  where
    by : Outcome at value before after → (after.indexes ≡ before.indexes) ⊎ ((place_of at before ≡ None) × (after.indexes ≡ before.indexes ++ at ∷ []))
    by (inl (n, place, e)) = inl (ap (λ array. array.indexes) e)
    by (inr (none, dynamic, e)) = inr (none, ap (λ array. array.indexes) e)

pub dense_stays : DenseStays
dense_stays at value before after dense is = by (outcome at value before after is)
  where
    by : Outcome at value before after → after.indexes ≡ before.indexes
    by (inl (n, place, e)) = ap (λ array. array.indexes) e
    by (inr (none, dynamic, e)) = absurd (true≢false (sym dynamic ∙ dense))

pub range_is_outside : RangeIsOutside
range_is_outside at array dense = by (place_of at array)
  where
    missing : or_range (cell_or_default array None) ≡ Err Range
    missing = ap (λ (b : Bool). or_range (if b then Some array.default else None)) dense

    by : (place : Option ℕ) → (or_range (cell_or_default array place) ≡ Err Range) ↔ (is_some place ≡ false)
    by (Some n) = (λ h. cc, λ h. cc)
    by None = (λ h. refl, λ h. missing)

pub range_is_outside_too : RangeIsOutsideToo
range_is_outside_too at value array dense = by (place_of at array)
  where
    made : with_cell at value array None ≡ Err Range
    made = ap (λ (b : Bool). if b then with_new_cell at value array else Err Range) dense

    by : (place : Option ℕ) → (with_cell at value array place ≡ Err Range) ↔ (is_some place ≡ false)
    by (Some n) = (λ h. cc, λ h. cc)
    by None = (λ h. refl, λ h. made)

pub last_is_fastest : LastIsFastest
last_is_fastest sets members = fold-append with_index ([] ∷ []) sets (members ∷ [])
