-- What a value is: what is looked for in one, where it is of that kind.

use Rattle.std.specs.Prelude.{ℤ, Bool, List, ℕ, Option, Some, None}
use Rattle.mos_text.specs.declared.scalar.Scalar.{Scalar}
use Rattle.mos_text.specs.declared.scalar.Scalar.TheVariants as scalar
use Rattle.mos_value.specs.declared.member.MemberType.{MemberType}
use Rattle.mos_value.specs.Values.{Value, One, SetOf, ListOf, Range, Fields}

-- a value without parts
abbrev pub scalar_in : Value → Option Scalar
scalar_in (One value) = Some value
scalar_in (SetOf member members) = None
scalar_in (ListOf member items) = None
scalar_in (Range first last) = None
scalar_in (Fields names values) = None

-- the integer that a value is
abbrev pub integer_in : Value → Option ℤ
integer_in (One (scalar.Int n)) = Some n
integer_in _ = None

-- the truth that it is
abbrev pub truth_in : Value → Option Bool
truth_in (One (scalar.Bool b)) = Some b
truth_in _ = None

-- the text that it is
abbrev pub text_in : Value → Option (List ℕ)
text_in (One (scalar.Str t)) = Some t
text_in _ = None

-- the members of the set that it is, with their type
abbrev pub set_in : Value → Option (MemberType × List Scalar)
set_in (SetOf member members) = Some (member, members)
set_in _ = None

-- the items of the list that it is, with their type
abbrev pub list_in : Value → Option (MemberType × List Scalar)
list_in (ListOf member items) = Some (member, items)
list_in _ = None

-- the bounds of the range that it is
abbrev pub range_in : Value → Option (ℤ × ℤ)
range_in (Range first last) = Some (first, last)
range_in _ = None

-- the values of the fields of the record that it is
abbrev pub fields_in : Value → Option (List Scalar)
fields_in (Fields names values) = Some values
fields_in _ = None
