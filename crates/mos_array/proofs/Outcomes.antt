-- what becomes of an array in which a cell is written
use Rattle.std.proofs.Common.{◌≡◌, ◌⊎◌, ℕ, Bool, true, false, [], ◌∷◌, ◌++◌, List, Option, Some, None, Ok, Err, length, refl, inl, inr, if◌then◌else◌}
use Rattle.std.specs.Prelude.{nat_lt, slice_set}
use Rattle.mos_text.specs.declared.fault_kind.FaultKind.TheVariants.{Range, TooBig}
use Rattle.mos_text.specs.declared.scalar.Scalar.{Scalar}
use Rattle.mos_value.specs.Collections.{collection_limit}
use Rattle.mos_array.specs.Contents.{Content, place_of, with_cell, with_new_cell, put_cell_of}
use Rattle.mos_array.specs.declared.cells.CellValue.{CellValue}

-- with another value in a cell that is there
abbrev pub changed : ℕ → CellValue → Content → Content
changed n value array = record array { cells = slice_set array.cells n value }

-- with one cell more
abbrev pub grown : List Scalar → CellValue → Content → Content
grown at value array = record array { indexes = array.indexes ++ at ∷ []; cells = array.cells ++ value ∷ [] }

-- a cell that is there is changed, or a dynamic array has one more
abbrev pub Outcome : List Scalar → CellValue → Content → Content → Type 0
Outcome at value before after =
    ((n : ℕ) × (place_of at before ≡ Some n) × (after ≡ changed n value before))
    ⊎ ((place_of at before ≡ None) × (before.dynamic ≡ true) × (after ≡ grown at value before))

pub outcome : (at : List Scalar) (value : CellValue) (before after : Content) → put_cell_of at value before ≡ Ok after → Outcome at value before after
outcome at value before after is = by (place_of at before) refl is
  where
    room : (b : Bool) → place_of at before ≡ None → before.dynamic ≡ true → (if b then Ok (grown at value before) else Err TooBig) ≡ Ok after → Outcome at value before after
    room true none dynamic e = inr (none, dynamic, cc)
    room false none dynamic e = cc

    kind : (b : Bool) → place_of at before ≡ None → before.dynamic ≡ b → (if b then with_new_cell at value before else Err Range) ≡ Ok after → Outcome at value before after
    kind true none dynamic e = room (nat_lt (length before.indexes) collection_limit) none dynamic e
    kind false none dynamic e = cc

    by : (place : Option ℕ) → place_of at before ≡ place → with_cell at value before place ≡ Ok after → Outcome at value before after
    by (Some n) e f = inl (n, e, cc)
    by None e f = kind before.dynamic e refl f
