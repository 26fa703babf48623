-- Sets as lists of scalars that have no member twice, and what operators make of them.

use Rattle.std.specs.Prelude.{◌≡◌, Bool, false, not, ◌&&◌, List, [], ◌∷◌, ◌++◌, ⊤, Result, filter, fold, if◌then◌else◌}
use Rattle.std.specs.List.{list_any, list_all}
use Rattle.mos_text.specs.declared.scalar.Scalar.{Scalar}
use Rattle.mos_text.specs.declared.fault_kind.FaultKind.{FaultKind}
use Rattle.mos_value.specs.Same.{is_same}
use Rattle.mos_value.specs.Collections.{collection_of}

-- the scalar is one of these
abbrev pub has_member : Scalar → List Scalar → Bool
has_member x members = list_any (is_same x) members

-- no member stands twice
abbrev pub IsSet : List Scalar → Type 0
IsSet [] = ⊤
IsSet (x ∷ members) = (has_member x members ≡ false) × IsSet members

-- the members, and behind them one more that is none of them
abbrev pub with_member : List Scalar → Scalar → List Scalar
with_member members x = if has_member x members then members else members ++ x ∷ []

-- the left one's members in their order, and behind them those of the right one that are new, in theirs
abbrev pub union : List Scalar → List Scalar → List Scalar
union left right = fold with_member left right

-- the left one's members, in their order, that the right one has
abbrev pub inter : List Scalar → List Scalar → List Scalar
inter left right = filter (λ x. has_member x right) left

-- the left one's members, in their order, that the right one lacks
abbrev pub minus : List Scalar → List Scalar → List Scalar
minus left right = filter (λ x. not (has_member x right)) left

-- each of these once, in the order of their first places
abbrev pub set_from : List Scalar → List Scalar
set_from items = union [] items

-- each member of the one is a member of the other
abbrev pub same_members : List Scalar → List Scalar → Bool
same_members left right = list_all (λ x. has_member x right) left && list_all (λ x. has_member x left) right

-- `union`, and `+` between sets
abbrev pub union_of : List Scalar → List Scalar → Result (List Scalar) FaultKind
union_of left right = collection_of (union left right)

-- `inter`
abbrev pub inter_of : List Scalar → List Scalar → Result (List Scalar) FaultKind
inter_of left right = collection_of (inter left right)

-- `-` between sets
abbrev pub minus_of : List Scalar → List Scalar → Result (List Scalar) FaultKind
minus_of left right = collection_of (minus left right)

-- the set of a list
abbrev pub set_of : List Scalar → Result (List Scalar) FaultKind
set_of items = collection_of (set_from items)
