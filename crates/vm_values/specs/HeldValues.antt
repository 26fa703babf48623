-- As the code goes about it: values as the program holds them, and how two of them are ordered.

use Rattle.std.specs.Prelude.{Option, None}
use Rattle.std.specs.declared.cmp.Ordering.{Ordering}
use Rattle.mos_value.specs.Comparisons.{order_of}
use Rattle.mos_value.specs.Values.{Value, One, SetOf, ListOf, Range, Fields}
use Rattle.vm_values.specs.declared.value.Form.{Form}
use Rattle.vm_values.specs.declared.value.Form.TheVariants as form

-- the value that is held so
abbrev pub value_of : Form → Value
value_of (form.One value) = One value
value_of (form.SetOf member members) = SetOf member members
value_of (form.ListOf member items) = ListOf member items
value_of (form.Range first last) = Range first last
value_of (form.Fields names values) = Fields names values

-- how two integers or two texts are ordered
abbrev pub order_in : Value → Value → Option Ordering
order_in (One a) (One b) = order_of a b
order_in _ _ = None
