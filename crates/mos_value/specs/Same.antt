-- When two scalars are the same.

use Rattle.std.specs.Prelude.{Bool, false, not, ◌&&◌, ◌==◌, if◌then◌else◌}
use Rattle.std.specs.Ordering.{int_eq}
use Rattle.std.specs.Str.{bytes_eq}
use Rattle.mos_text.specs.declared.scalar.Scalar.{Scalar}
use Rattle.mos_text.specs.declared.scalar.Scalar.TheVariants.{Int, Bool as Truth, Str, Model, Event}

-- of one kind, and equal in all parts
abbrev pub is_same : Scalar → Scalar → Bool
is_same (Int a) (Int b) = int_eq a b
is_same (Truth a) (Truth b) = if a then b else not b
is_same (Str a) (Str b) = bytes_eq a b
is_same (Model a) (Model b) = a == b
is_same (Event a m) (Event b n) = int_eq a b && int_eq m n
is_same _ _ = false
