-- As the code goes about it: values as the program holds them, and what is looked for in one.

use Rattle.std.specs.Prelude.{ℤ, Bool, List, ℕ, Option, Some, None}
use Rattle.mos_text.specs.declared.scalar.Scalar.{Scalar}
use Rattle.mos_text.specs.declared.scalar.Scalar.TheVariants as scalar
use Rattle.mos_value.specs.Values.{Value, One, SetOf, ListOf, Range, Fields}
use Rattle.run_state.specs.Parameters.{and_then}
use Rattle.mos_vm.specs.declared.value.Form.{Form}
use Rattle.mos_vm.specs.declared.value.Form.TheVariants as form

-- the value that is held so
abbrev pub value_of : Form → Value
value_of (form.One value) = One value
value_of (form.SetOf member members) = SetOf member members
value_of (form.ListOf member items) = ListOf member items
value_of (form.Range first last) = Range first last
value_of (form.Fields names values) = Fields names values

-- a value without parts
abbrev pub scalar_in : Value → Option Scalar
scalar_in (One value) = Some value
scalar_in (SetOf member members) = None
scalar_in (ListOf member items) = None
scalar_in (Range first last) = None
scalar_in (Fields names values) = None

-- the integer that a scalar is
abbrev pub integer_of_scalar : Scalar → Option ℤ
integer_of_scalar (scalar.Int n) = Some n
integer_of_scalar (scalar.Bool b) = None
integer_of_scalar (scalar.Str t) = None
integer_of_scalar (scalar.Model n) = None
integer_of_scalar (scalar.Event class value) = None

-- the boolean that it is
abbrev pub truth_of_scalar : Scalar → Option Bool
truth_of_scalar (scalar.Bool b) = Some b
truth_of_scalar (scalar.Int n) = None
truth_of_scalar (scalar.Str t) = None
truth_of_scalar (scalar.Model n) = None
truth_of_scalar (scalar.Event class value) = None

-- the text that it is
abbrev pub text_of_scalar : Scalar → Option (List ℕ)
text_of_scalar (scalar.Str t) = Some t
text_of_scalar (scalar.Int n) = None
text_of_scalar (scalar.Bool b) = None
text_of_scalar (scalar.Model n) = None
text_of_scalar (scalar.Event class value) = None

-- the integer that a value is
abbrev pub integer_in : Value → Option ℤ
integer_in value = and_then (scalar_in value) integer_of_scalar

-- the boolean that it is
abbrev pub truth_in : Value → Option Bool
truth_in value = and_then (scalar_in value) truth_of_scalar

-- the text that it is
abbrev pub text_in : Value → Option (List ℕ)
text_in value = and_then (scalar_in value) text_of_scalar
