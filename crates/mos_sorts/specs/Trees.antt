-- Typed expressions: the type of each, and conversions.

use Rattle.std.specs.Prelude.{Bool, true, false, List, Option, Some, None}
use Rattle.mos_value.specs.declared.member.MemberType.TheVariants as m
use Rattle.mos_tree.specs.declared.expr.UnaryOperator.{UnaryOperator}
use Rattle.mos_tree.specs.declared.expr.UnaryOperator.TheVariants as unary
use Rattle.mos_sorts.specs.declared.sort.Sort.{Sort}
use Rattle.mos_sorts.specs.declared.sort.Sort.TheVariants as s
use Rattle.mos_sorts.specs.declared.typed.Typed.{Typed}
use Rattle.mos_sorts.specs.declared.typed.Typed.TheVariants as t
use Rattle.mos_sorts.specs.declared.typed.Typed.TheViews.{out-Typed}
use Rattle.mos_sorts.specs.declared.typed.Typed.TheOpen.{Typed-F, Wrong, Integer, Text, Truth, Constant, Name, Returned, Cell, Field, Routine, Library, Set, List as ListOf, If, Unary, Binary, AsSet, Show, Aggregate, Count}

-- the type of a unary operator's answer
abbrev pub sort_of_unary : UnaryOperator → Sort
sort_of_unary unary.Not = s.Boolean
sort_of_unary _ = s.Integer

-- the type that stands in a node
abbrev pub sort_at : Typed-F Typed → Option Sort
sort_at Wrong = None
sort_at (Integer n) = Some s.Integer
sort_at (Text text) = Some s.Text
sort_at (Truth b) = Some s.Boolean
sort_at (Constant sort place name) = Some sort
sort_at (Name sort place name) = Some sort
sort_at (Returned sort) = Some sort
sort_at (Cell sort dynamic place name indexes) = Some sort
sort_at (Field sort a field) = Some sort
sort_at (Routine sort name all) = Some sort
sort_at (Library sort called all) = Some sort
sort_at (Set sort all) = Some sort
sort_at (ListOf sort all) = Some sort
sort_at (If sort a b c) = Some sort
sort_at (Unary operator a) = Some (sort_of_unary operator)
sort_at (Binary sort operation a b) = Some sort
sort_at (AsSet a) = Some (s.Set m.Integer)
sort_at (Show a) = Some s.Text
sort_at (Aggregate sort operator index body) = Some sort
sort_at (Count index) = Some s.Integer

-- the type of an expression, where it has one
abbrev pub sort_of : Typed → Option Sort
sort_of a = sort_at (out-Typed a)

-- Conversions.

-- a range as a set, where its type says that it is one
abbrev pub set_if : Option Sort → Typed → Typed
set_if (Some s.Range) a = t.AsSet a
set_if _ a = a

-- a range as a set
abbrev pub as_set_tree : Typed → Typed
as_set_tree a = set_if (sort_of a) a

-- a value where this type is wanted: a range that is given to a set becomes one
abbrev pub as_wanted : Sort → Typed → Typed
as_wanted (s.Set member) a = as_set_tree a
as_wanted wanted a = a

-- a value that is no text as its printed form
abbrev pub printed_if : Option Sort → Typed → Typed
printed_if (Some s.Text) a = a
printed_if _ a = t.Show a

-- the printed form of a value
abbrev pub as_printed : Typed → Typed
as_printed a = printed_if (sort_of a) a
