-- Types of the language: which of them are one, and which value fits where a type is wanted.

use Rattle.std.specs.Prelude.{ℕ, Bool, true, false, ◌&&◌, ◌||◌, List, [], ◌∷◌, Option, Some, None, nat_eq}
use Rattle.mos_value.specs.declared.member.MemberType.{MemberType}
use Rattle.mos_value.specs.declared.member.MemberType.TheVariants as m
use Rattle.mos_sorts.specs.declared.sort.Sort.{Sort}
use Rattle.mos_sorts.specs.declared.sort.Sort.TheVariants as s

-- this, where it holds
abbrev pub when : {A : Type 0} → Bool → A → Option A
when true a = Some a
when false a = None

-- the first, or the second where there is no first
abbrev pub or_else : {A : Type 0} → Option A → Option A → Option A
or_else None b = b
or_else (Some a) b = Some a

-- the types of members are one
abbrev pub same_member : MemberType → MemberType → Bool
same_member m.Integer m.Integer = true
same_member m.Boolean m.Boolean = true
same_member m.Str m.Str = true
same_member _ _ = false

-- two types are one
abbrev pub same_sort : Sort → Sort → Bool
same_sort s.Integer s.Integer = true
same_sort s.Boolean s.Boolean = true
same_sort s.Text s.Text = true
same_sort s.Model s.Model = true
same_sort s.Event s.Event = true
same_sort s.Range s.Range = true
same_sort (s.Set a) (s.Set b) = same_member a b
same_sort (s.List a) (s.List b) = same_member a b
same_sort s.EmptySet s.EmptySet = true
same_sort s.EmptyList s.EmptyList = true
same_sort (s.Array a) (s.Array b) = nat_eq a b
same_sort (s.Record a) (s.Record b) = nat_eq a b
same_sort _ _ = false

-- the type of a member
abbrev pub sort_of_member : MemberType → Sort
sort_of_member m.Integer = s.Integer
sort_of_member m.Boolean = s.Boolean
sort_of_member m.Str = s.Text

-- the type as that of members: integer, boolean or string
abbrev pub as_member : Sort → Option MemberType
as_member s.Integer = Some m.Integer
as_member s.Boolean = Some m.Boolean
as_member s.Text = Some m.Str
as_member _ = None

-- a range counts as a set of integer
abbrev pub as_set : Sort → Option Sort
as_set s.Range = Some (s.Set m.Integer)
as_set (s.Set a) = Some (s.Set a)
as_set s.EmptySet = Some s.EmptySet
as_set _ = None

-- the type of two sets together: `{}` counts as any set
abbrev pub set_of_both : Option Sort → Option Sort → Option Sort
set_of_both (Some (s.Set a)) (Some (s.Set b)) = when (same_member a b) (s.Set a)
set_of_both (Some (s.Set a)) (Some s.EmptySet) = Some (s.Set a)
set_of_both (Some s.EmptySet) (Some (s.Set b)) = Some (s.Set b)
set_of_both (Some s.EmptySet) (Some s.EmptySet) = Some s.EmptySet
set_of_both _ _ = None

-- the type of two sets or ranges together
abbrev pub common_set : Sort → Sort → Option Sort
common_set a b = set_of_both (as_set a) (as_set b)

-- the type of two lists together: `[]` counts as any list
abbrev pub common_list : Sort → Sort → Option Sort
common_list (s.List a) (s.List b) = when (same_member a b) (s.List a)
common_list (s.List a) s.EmptyList = Some (s.List a)
common_list s.EmptyList (s.List b) = Some (s.List b)
common_list s.EmptyList s.EmptyList = Some s.EmptyList
common_list _ _ = None

-- the type of two values of one type
abbrev pub common : Sort → Sort → Option Sort
common a b = or_else (when (same_sort a b) a) (or_else (common_set a b) (common_list a b))

-- a value of the second type fits where the first is wanted
abbrev pub fits : Sort → Sort → Bool
fits (s.Set a) s.Range = same_member a m.Integer
fits (s.Set a) s.EmptySet = true
fits (s.List a) s.EmptyList = true
fits wanted given = same_sort wanted given

-- the type of what an index takes from a set, range or list
abbrev pub sort_of_index : Sort → Option Sort
sort_of_index s.Range = Some s.Integer
sort_of_index (s.Set a) = Some (sort_of_member a)
sort_of_index (s.List a) = Some (sort_of_member a)
sort_of_index _ = None

-- the type of an array's index over a set or range
abbrev pub index_over : Sort → Option MemberType
index_over s.Range = Some m.Integer
index_over (s.Set a) = Some a
index_over _ = None

-- a value without parts, other than a record
abbrev pub is_scalar : Sort → Bool
is_scalar s.Integer = true
is_scalar s.Boolean = true
is_scalar s.Text = true
is_scalar s.Model = true
is_scalar s.Event = true
is_scalar _ = false

-- an array
abbrev pub is_array : Sort → Bool
is_array (s.Array a) = true
is_array _ = false

-- this is the one type
abbrev pub is_sort : Sort → Option Sort → Bool
is_sort wanted (Some given) = same_sort wanted given
is_sort wanted None = false

-- a value fits, or has no type
abbrev pub may_fit : Sort → Option Sort → Bool
may_fit wanted None = true
may_fit wanted (Some given) = fits wanted given
