-- Array and record types have numbers: the place of the first that was written with the same parts.

use Rattle.std.specs.Prelude.{ℕ, suc, Bool, true, false, ◌&&◌, List, [], ◌∷◌, ◌++◌, if◌then◌else◌}
use Rattle.std.specs.Bool.{beq}
use Rattle.std.specs.List.{list_any}
use Rattle.std.specs.Str.{bytes_eq}
use Rattle.mos_sorts.specs.declared.sort.Sort.{Sort}
use Rattle.mos_sorts.specs.declared.sort.Sort.TheVariants as s
use Rattle.mos_sorts.specs.declared.sort.ArraySort.{ArraySort}
use Rattle.mos_sorts.specs.declared.sort.RecordSort.{RecordSort}
use Rattle.mos_sorts.specs.declared.scope.Scope.{Scope}
use Rattle.mos_sorts.specs.Sorts.{same_member, same_sort}

-- both have as many, and at each place the same
abbrev pub all_same : {A : Type 0} → (A → A → Bool) → List A → List A → Bool
all_same same [] [] = true
all_same same (a ∷ as_) (b ∷ bs) = same a b && all_same same as_ bs
all_same same _ _ = false

-- two array types have the same parts
abbrev pub same_array : ArraySort → ArraySort → Bool
same_array a b = beq a.dynamic b.dynamic && (all_same same_member a.indexes b.indexes && same_sort a.cell b.cell)

-- two record types have the same fields in the same order
abbrev pub same_record : RecordSort → RecordSort → Bool
same_record a b = all_same bytes_eq a.names b.names && all_same same_sort a.sorts b.sorts

-- the place of the first that is the same, from 0; where none is, that behind the last
abbrev pub place_by : {A : Type 0} → (A → Bool) → List A → ℕ
place_by is [] = 0
place_by is (a ∷ all) = if is a then 0 else suc (place_by is all)

-- these, and this one where none of them is the same
abbrev pub with_one : {A : Type 0} → (A → A → Bool) → A → List A → List A
with_one same a all = if list_any (same a) all then all else all ++ a ∷ []

-- an array type with its number, and the scope that knows it
abbrev pub array_numbered : ArraySort → Scope → Sort × Scope
array_numbered parts scope =
    (s.Array (place_by (same_array parts) scope.arrays), record scope { arrays = with_one same_array parts scope.arrays })

-- a record type with its number, and the scope that knows it
abbrev pub record_numbered : RecordSort → Scope → Sort × Scope
record_numbered parts scope =
    (s.Record (place_by (same_record parts) scope.records), record scope { records = with_one same_record parts scope.records })
