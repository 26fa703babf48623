-- what cells hold after one was written
use Rattle.std.proofs.Common.{◌≡◌, ◌≢◌, ◌<◌, ℕ, Bool, true, false, [], ◌∷◌, ◌++◌, List, Option, Some, None, Ok, get_or, length, refl, ap, sym, ◌∙◌, inl, inr, arith}
use Rattle.std.proofs.lemmas.List.{get_or-set_same, get_or-set_other, get_or_append_left}
use Rattle.std.proofs.Math.Seq.{get_or-append_seam}
use Rattle.std.proofs.lemmas.List.Quantifiers.{position-Some}
use Rattle.mos_text.specs.declared.scalar.Scalar.{Scalar}
use Rattle.mos_value.specs.Laws.{SameIsEqual}
use Rattle.mos_array.specs.Contents.{Content, same_indexes, place_of, cell_or_default, or_range, get_cell_of}
use Rattle.mos_array.specs.Laws.{IsWhole, WrittenIsRead, OthersStay}
use Rattle.mos_array.proofs.PlaceLemmas.{same-itself, same-is, position-behind, position-same}
use Rattle.mos_array.proofs.Outcomes.{Outcome, outcome, changed, grown}

-- a place is that of a cell
pub within : (at : List Scalar) (array : Content) → IsWhole array → (n : ℕ) → place_of at array ≡ Some n → n < length array.cells
within at array whole n e = omega (arith, (position-Some (same_indexes at) array.indexes n at e).0, whole)

pub written_is_read : SameIsEqual → WrittenIsRead
written_is_read law at value before after whole is = by (outcome at value before after is)
  where
    by : Outcome at value before after → get_cell_of at after ≡ Ok value
    by (inl (n, place, e)) =
        ap (get_cell_of at) e
        ∙ (ap (λ p. or_range (cell_or_default (changed n value before) p)) place
        ∙ ap (λ v. Ok v) (get_or-set_same before.cells n value before.default (within at before whole n place)))
    by (inr (none, dynamic, e)) =
        ap (get_cell_of at) e
        ∙ (ap (λ p. or_range (cell_or_default (grown at value before) p)) (position-behind (same_indexes at) before.indexes at none (same-itself law at))
        ∙ ap (λ v. Ok v) (ap (λ n. get_or (before.cells ++ value ∷ []) n before.default) whole ∙ get_or-append_seam before.cells value [] before.default))

-- another index list is none of these
fails : SameIsEqual → (at other list : List Scalar) → other ≢ at → at ≡ list → same_indexes other list ≡ false
fails law at other list differ e = test (same_indexes other list) refl
  where
    test : (b : Bool) → same_indexes other list ≡ b → b ≡ false
    test true same = absurd (differ (same-is law other list same ∙ sym e))
    test false same = refl

-- two index lists have two places
apart : SameIsEqual → (at other : List Scalar) (array : Content) → other ≢ at
    → (n m : ℕ) → place_of at array ≡ Some n → place_of other array ≡ Some m → m ≢ n
apart law at other array differ n m here there same =
    let mine = (position-Some (same_indexes at) array.indexes n at here).1 in
    let theirs = (position-Some (same_indexes other) array.indexes m at there).1 in
    differ
    (same-is law other (get_or array.indexes m at) theirs
    ∙ (ap (λ k. get_or array.indexes k at) same ∙ sym (same-is law at (get_or array.indexes n at) mine)))

pub others_stay : SameIsEqual → OthersStay
others_stay law at other value before after whole differ is = by (outcome at value before after is)
  where
    held : (place : Option ℕ) → place_of other before ≡ place → (n : ℕ) → place_of at before ≡ Some n
        → cell_or_default (changed n value before) place ≡ cell_or_default before place
    held None e n there = refl
    held (Some m) e n there =
        ap (λ v. Some v) (get_or-set_other before.cells n m value before.default (apart law at other before differ n m there e))

    behind : (place : Option ℕ) → place_of other before ≡ place → cell_or_default (grown at value before) place ≡ cell_or_default before place
    behind None e = refl
    behind (Some m) e = ap (λ v. Some v) (get_or_append_left before.cells (value ∷ []) before.default m (within other before whole m e))

    by : Outcome at value before after → get_cell_of other after ≡ get_cell_of other before
    by (inl (n, place, e)) = ap (get_cell_of other) e ∙ ap or_range (held (place_of other before) refl n place)
    by (inr (none, dynamic, e)) =
        ap (get_cell_of other) e
        ∙ (ap (λ p. or_range (cell_or_default (grown at value before) p)) (position-same (same_indexes other) before.indexes at (fails law at other at differ refl))
        ∙ ap or_range (behind (place_of other before) refl))
