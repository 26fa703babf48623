-- The table of all that is computed from values alone: operators, conversions, sets and lists that are written
-- out, fields, and functions of the library; the same for the meaning of a model and for the machine.

use Rattle.std.specs.Prelude.{ℕ, int_le, Bool, true, false, not, ◌&&◌, List, [], ◌∷◌, Option, Some, None, option_map, slice_get, Result as Found, Ok, Err}
use Rattle.std.specs.Ordering.{is_lt, is_gt}
use Rattle.mos_text.specs.declared.fault_kind.FaultKind.{FaultKind}
use Rattle.mos_text.specs.declared.scalar.Scalar.{Scalar}
use Rattle.mos_text.specs.declared.scalar.Scalar.TheVariants.{Int, Bool as Truth, Str}
use Rattle.mos_value.specs.declared.member.MemberType.{MemberType}
use Rattle.mos_value.specs.declared.member.MemberType.TheVariants.{Integer}
use Rattle.mos_value.specs.Values.{Value, One, SetOf, ListOf, Range, Fields}
use Rattle.mos_value.specs.Answers.{Result, Gives, Faults, Sticks, Comparison, equal, not_equal, less, at_most, greater, at_least, result_of_found, truth}
use Rattle.mos_value.specs.Same.{is_same}
use Rattle.mos_value.specs.Comparisons.{order_of, same_value}
use Rattle.mos_value.specs.Numbers.{sum_of, difference_of, product_of, quotient_of, remainder_of, negative_of}
use Rattle.mos_value.specs.Texts.{join_of}
use Rattle.mos_value.specs.Collections.{collection_of}
use Rattle.mos_value.specs.Sets.{has_member, same_members, union_of, inter_of, minus_of, set_of}
use Rattle.mos_value.specs.Lists.{chain_of}
use Rattle.mos_value.specs.Ranges.{range_members, range_set}
use Rattle.vm_lib.specs.declared.function.LibraryFunction.{LibraryFunction}
use Rattle.vm_lib.specs.Library.{library}
use Rattle.vm_lib.specs.Printed.{show}

-- what is done with values
pub data Doing : Type 0 where
  add : Doing  -- integers
  subtract : Doing
  multiply : Doing
  divide : Doing
  leave_over : Doing  -- `mod`
  negate : Doing  -- `-` before one integer
  join : Doing  -- texts
  span : Doing  -- the range from one integer to another
  compare : (how : Comparison) → Doing  -- two values of one kind
  reverse_truth : Doing  -- `not`
  is_in : Doing  -- a member, and a set or range
  unite : Doing  -- sets
  meet : Doing
  without : Doing
  chain : Doing  -- lists
  make_set : (member : MemberType) → Doing  -- of the members that are written out
  make_list : (member : MemberType) → Doing
  as_set : Doing  -- of a range
  show_value : Doing  -- as a text
  field : (number : ℕ) → Doing  -- of a record, from 0 on
  call : (function : LibraryFunction) → Doing  -- of the library

-- Parts of the table.

-- a set that was found, or its fault
abbrev pub found_set : MemberType → Found (List Scalar) FaultKind → Result
found_set member (Ok members) = Gives (SetOf member members)
found_set member (Err fault) = Faults fault

-- a list that was found, or its fault
abbrev pub found_list : MemberType → Found (List Scalar) FaultKind → Result
found_list member (Ok items) = Gives (ListOf member items)
found_list member (Err fault) = Faults fault

-- two lists have the same items in the same order
abbrev pub same_items : List Scalar → List Scalar → Bool
same_items [] [] = true
same_items (x ∷ xs) (y ∷ ys) = is_same x y && same_items xs ys
same_items _ _ = false

-- whether two values of one kind are the same: of sets the members count, of ranges the integers, of lists and
-- records what stands in each place; what a value carries beside its parts does not count
abbrev pub same_values : Value → Value → Option Bool
same_values (One a) (One b) = same_value a b
same_values (SetOf m a) (SetOf n b) = Some (same_members a b)
same_values (ListOf m a) (ListOf n b) = Some (same_items a b)
same_values (Range a b) (Range c d) = Some (same_items (range_members a b) (range_members c d))
same_values (Fields m a) (Fields n b) = Some (same_items a b)
same_values _ _ = None

-- a comparison, where the two are of one kind that has it
abbrev pub compared : Comparison → Value → Value → Option Bool
compared equal a b = same_values a b
compared not_equal a b = option_map not (same_values a b)
compared less (One a) (One b) = option_map is_lt (order_of a b)
compared less _ _ = None
compared at_most (One a) (One b) = option_map (λ order. not (is_gt order)) (order_of a b)
compared at_most _ _ = None
compared greater (One a) (One b) = option_map is_gt (order_of a b)
compared greater _ _ = None
compared at_least (One a) (One b) = option_map (λ order. not (is_lt order)) (order_of a b)
compared at_least _ _ = None

-- whether a scalar is a member of a set, or an integer in a range
abbrev pub member_of : Scalar → Value → Option Bool
member_of x (SetOf member members) = Some (has_member x members)
member_of (Int n) (Range first last) = Some (int_le first n && int_le n last)
member_of _ _ = None

-- one scalar before others
abbrev pub scalar_before : Scalar → Option (List Scalar) → Option (List Scalar)
scalar_before x None = None
scalar_before x (Some more) = Some (x ∷ more)

-- the scalars that values are, where each is one
abbrev pub scalars_in : List Value → Option (List Scalar)
scalars_in [] = Some []
scalars_in (One x ∷ more) = scalar_before x (scalars_in more)
scalars_in _ = None

-- what is made of scalars that are there
abbrev pub of_scalars : (List Scalar → Result) → Option (List Scalar) → Result
of_scalars make None = Sticks
of_scalars make (Some all) = make all

-- a field that is there
abbrev pub field_or_stuck : Option Scalar → Result
field_or_stuck None = Sticks
field_or_stuck (Some x) = Gives (One x)

-- The table.

-- what comes of values, in the order in which they are written
abbrev pub done : Doing → List Value → Result
done add (One (Int a) ∷ One (Int b) ∷ []) = result_of_found Int (sum_of a b)
done add _ = Sticks
done subtract (One (Int a) ∷ One (Int b) ∷ []) = result_of_found Int (difference_of a b)
done subtract _ = Sticks
done multiply (One (Int a) ∷ One (Int b) ∷ []) = result_of_found Int (product_of a b)
done multiply _ = Sticks
done divide (One (Int a) ∷ One (Int b) ∷ []) = result_of_found Int (quotient_of a b)
done divide _ = Sticks
done leave_over (One (Int a) ∷ One (Int b) ∷ []) = result_of_found Int (remainder_of a b)
done leave_over _ = Sticks
done negate (One (Int a) ∷ []) = result_of_found Int (negative_of a)
done negate _ = Sticks
done join (One (Str a) ∷ One (Str b) ∷ []) = result_of_found Str (join_of a b)
done join _ = Sticks
done span (One (Int a) ∷ One (Int b) ∷ []) = Gives (Range a b)
done span _ = Sticks
done (compare how) (a ∷ b ∷ []) = truth (compared how a b)
done (compare how) _ = Sticks
done reverse_truth (One (Truth b) ∷ []) = Gives (One (Truth (not b)))
done reverse_truth _ = Sticks
done is_in (One x ∷ value ∷ []) = truth (member_of x value)
done is_in _ = Sticks
done unite (SetOf m a ∷ SetOf n b ∷ []) = found_set m (union_of a b)
done unite _ = Sticks
done meet (SetOf m a ∷ SetOf n b ∷ []) = found_set m (inter_of a b)
done meet _ = Sticks
done without (SetOf m a ∷ SetOf n b ∷ []) = found_set m (minus_of a b)
done without _ = Sticks
done chain (ListOf m a ∷ ListOf n b ∷ []) = found_list m (chain_of a b)
done chain _ = Sticks
done (make_set member) all = of_scalars (λ members. found_set member (set_of members)) (scalars_in all)
done (make_list member) all = of_scalars (λ items. found_list member (collection_of items)) (scalars_in all)
done as_set (Range first last ∷ []) = found_set Integer (range_set first last)
done as_set _ = Sticks
done show_value (value ∷ []) = result_of_found Str (show value)
done show_value _ = Sticks
done (field number) (Fields names values ∷ []) = field_or_stuck (slice_get values number)
done (field number) _ = Sticks
done (call function) all = library function all
