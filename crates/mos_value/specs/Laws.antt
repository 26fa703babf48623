-- What a user of sets and ranges may count on.

use Rattle.std.specs.Prelude.{◌≡◌, ℤ, ◌≤ℤ◌, ◌&&◌, ◌||◌, ◌++◌, ◌↔◌, not, List, IsTrue, length}
use Rattle.mos_text.specs.declared.scalar.Scalar.{Scalar}
use Rattle.mos_text.specs.declared.scalar.Scalar.TheVariants.{Int}
use Rattle.mos_value.specs.Same.{is_same}
use Rattle.mos_value.specs.Sets.{has_member, IsSet, union, inter, minus, set_from, same_members}
use Rattle.mos_value.specs.Ranges.{range_count, range_members}

-- a scalar is a member where it is equal to one
abbrev pub SameIsEqual : Type 0
SameIsEqual = (x y : Scalar) → IsTrue (is_same x y) ↔ (x ≡ y)

-- a union has just the members of both
abbrev pub UnionHasJustBoth : Type 0
UnionHasJustBoth = (left right : List Scalar) (x : Scalar) → has_member x (union left right) ≡ (has_member x left || has_member x right)

-- and each once
abbrev pub UnionHasEachOnce : Type 0
UnionHasEachOnce = (left right : List Scalar) → IsSet left → IsSet (union left right)

-- the left set stands in front, as it was, and behind it what the right set has beside it
abbrev pub UnionKeepsOrder : Type 0
UnionKeepsOrder = (left right : List Scalar) → IsSet right → union left right ≡ left ++ minus right left

-- an intersection has just what both have
abbrev pub InterHasJustCommon : Type 0
InterHasJustCommon = (left right : List Scalar) (x : Scalar) → has_member x (inter left right) ≡ (has_member x left && has_member x right)

-- and each once
abbrev pub InterHasEachOnce : Type 0
InterHasEachOnce = (left right : List Scalar) → IsSet left → IsSet (inter left right)

-- a difference has just what the left one has and the right one lacks
abbrev pub MinusHasJustRest : Type 0
MinusHasJustRest = (left right : List Scalar) (x : Scalar) → has_member x (minus left right) ≡ (has_member x left && not (has_member x right))

-- and each once
abbrev pub MinusHasEachOnce : Type 0
MinusHasEachOnce = (left right : List Scalar) → IsSet left → IsSet (minus left right)

-- a list that becomes a set has each item once
abbrev pub SetHasEachOnce : Type 0
SetHasEachOnce = (items : List Scalar) → IsSet (set_from items)

-- and just its items
abbrev pub SetHasJustItems : Type 0
SetHasJustItems = (items : List Scalar) (x : Scalar) → has_member x (set_from items) ≡ has_member x items

-- what is a set already stays as it is
abbrev pub SetStays : Type 0
SetStays = (members : List Scalar) → IsSet members → set_from members ≡ members

-- two sets are the same where whatever is a member of one is a member of the other
abbrev pub SameByMembers : Type 0
SameByMembers = (left right : List Scalar) → IsTrue (same_members left right) ↔ ((x : Scalar) → has_member x left ≡ has_member x right)

-- the set of a range has as many members as the range
abbrev pub RangeHasItsSize : Type 0
RangeHasItsSize = (first last : ℤ) → length (set_from (range_members first last)) ≡ range_count first last

-- and just the integers that are neither below the first nor above the last
abbrev pub RangeHasJustBetween : Type 0
RangeHasJustBetween = (first last x : ℤ) → IsTrue (has_member (Int x) (range_members first last)) ↔ (first ≤ℤ x) × (x ≤ℤ last)
