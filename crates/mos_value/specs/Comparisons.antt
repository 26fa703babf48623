-- Which of two values without parts comes first, and whether they are the same.

use Rattle.std.specs.Prelude.{ℕ, Bool, true, false, List, Option, Some, None, if◌then◌else◌}
use Rattle.std.specs.declared.cmp.Ordering.{Ordering}
use Rattle.std.specs.Ordering.{is_lt, nat_cmp, int_cmp}
use Rattle.std.specs.Cmp.Lexicographic.{slice_cmp}
use Rattle.mos_text.specs.declared.scalar.Scalar.{Scalar}
use Rattle.mos_text.specs.declared.scalar.Scalar.TheVariants.{Int, Bool as Truth, Str, Model, Event}
use Rattle.mos_value.specs.Same.{is_same}

-- texts go by their bytes: by the first that differ; where one ends before, it comes first
abbrev pub text_order : List ℕ → List ℕ → Ordering
text_order = slice_cmp nat_cmp

-- `<` on texts
abbrev pub text_below : List ℕ → List ℕ → Bool
text_below a b = is_lt (text_order a b)

-- integers go by their size, texts by their bytes
abbrev pub order_of : Scalar → Scalar → Option Ordering
order_of (Int a) (Int b) = Some (int_cmp a b)
order_of (Str a) (Str b) = Some (text_order a b)
order_of _ _ = None

-- whether two values are of one kind
abbrev pub of_one_kind : Scalar → Scalar → Bool
of_one_kind (Int a) (Int b) = true
of_one_kind (Truth a) (Truth b) = true
of_one_kind (Str a) (Str b) = true
of_one_kind (Model a) (Model b) = true
of_one_kind (Event a m) (Event b n) = true
of_one_kind _ _ = false

-- whether two values of one kind are the same
abbrev pub same_value : Scalar → Scalar → Option Bool
same_value a b = if of_one_kind a b then Some (is_same a b) else None
