-- Array types as they are written: their indexes one by one, and then the whole.

use Rattle.std.specs.Prelude.{nat_lt, Bool, true, false, ◌||◌, List, [], ◌∷◌, length, Option, Some, None, option_and_then, is_none}
use Rattle.std.specs.List.{list_any}
use Rattle.mos_text.specs.declared.kind.Kind.{Kind}
use Rattle.mos_text.specs.declared.kind.Kind.TheVariants as k
use Rattle.mos_value.specs.declared.member.MemberType.{MemberType}
use Rattle.mos_value.specs.declared.member.MemberType.TheVariants as m
use Rattle.mos_tree.specs.declared.declaration.BaseType.{BaseType}
use Rattle.mos_tree.specs.declared.declaration.Dimension.{Dimension}
use Rattle.mos_tree.specs.declared.declaration.Dimension.TheVariants as d
use Rattle.mos_sorts.specs.declared.sort.Sort.{Sort}
use Rattle.mos_sorts.specs.declared.sort.ArraySort.{ArraySort}
use Rattle.mos_sorts.specs.declared.scope.Scope.{Scope}
use Rattle.mos_sorts.specs.Kinds.{least, breaks}
use Rattle.mos_sorts.specs.Sorts.{index_over}
use Rattle.mos_written.specs.Bases.{base_sort, base_member, after_base, after_member}
use Rattle.mos_written.specs.Tables.{array_numbered}

-- the rule that an index set of this type breaks: it is no set or range, or its members have no type
abbrev pub wrong_index_set : Option Sort → List Kind
wrong_index_set None = []
wrong_index_set (Some sort) = breaks (is_none (index_over sort)) k.NoType

-- the type of an index over an index set of this type
abbrev pub index_of_set : Option Sort → Option MemberType
index_of_set looked = option_and_then index_over looked

-- the type of an index, by what is written for it and, where that is an index set, by the type of this
abbrev pub index_of : Dimension → Option Sort → Scope → Option MemberType
index_of d.Range looked scope = Some m.Integer
index_of (d.Set base) looked scope = base_member base scope
index_of (d.IndexSet set) looked scope = index_of_set looked

-- what counts behind it, beside what the index set itself breaks
abbrev pub after_index : Dimension → Option Sort → Scope → Option Kind → Option Kind
after_index d.Range looked scope worst = worst
after_index (d.Set base) looked scope worst = after_member base scope worst
after_index (d.IndexSet set) looked scope worst = least worst (wrong_index_set looked)

-- a bare type stands for the index, so that no set says where the cells are
abbrev pub is_bare : Dimension → Bool
is_bare (d.IndexSet set) = false
is_bare _ = true

-- an array is dynamic where that word says so, or where a bare type stands for one of its indexes
abbrev pub is_dynamic : Bool → List Dimension → Bool
is_dynamic dynamic dimensions = dynamic || list_any is_bare dimensions

-- an array has at most 8 indexes
abbrev pub wrong_count : List Dimension → List Kind
wrong_count dimensions = breaks (nat_lt 8 (length dimensions)) k.Flat

-- what counts behind the indexes and the cell
abbrev pub after_array : List Dimension → BaseType → Scope → Option Kind → Option Kind
after_array dimensions cell scope worst = after_base cell scope (least worst (wrong_count dimensions))

-- one more in front of these, where there are both
abbrev pub in_front : Option MemberType → Option (List MemberType) → Option (List MemberType)
in_front (Some index) (Some indexes) = Some (index ∷ indexes)
in_front _ _ = None

-- the types of all indexes, where each has one
abbrev pub all_indexes : List (Option MemberType) → Option (List MemberType)
all_indexes [] = Some []
all_indexes (index ∷ indexes) = in_front index (all_indexes indexes)

-- an array type, where its indexes and its cells have types
abbrev pub array_parts : Bool → Option (List MemberType) → Option Sort → Option ArraySort
array_parts dynamic (Some indexes) (Some cell) = Some (record { dynamic = dynamic; indexes = indexes; cell = cell })
array_parts dynamic _ _ = None

-- the type with its number, where there is one, and the scope that knows it
abbrev pub numbered : Option ArraySort → Scope → Option Sort × Scope
numbered None scope = (None, scope)
numbered (Some parts) scope = (Some ((array_numbered parts scope).0), (array_numbered parts scope).1)

-- the array type that is written so, and the scope that knows it
abbrev pub array_written : Bool → List Dimension → List (Option MemberType) → BaseType → Scope → Option Sort × Scope
array_written dynamic dimensions indexes cell scope =
    numbered (array_parts (is_dynamic dynamic dimensions) (all_indexes indexes) (base_sort cell scope)) scope
