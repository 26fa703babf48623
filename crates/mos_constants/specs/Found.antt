-- Values that an operator finds, or none where it is a fault.

use Rattle.std.specs.Prelude.{◌≡◌, ℕ, ℤ, Bool, List, Option, Some, None, Result, Ok, Err}
use Rattle.mos_text.specs.declared.fault_kind.FaultKind.{FaultKind}
use Rattle.mos_text.specs.declared.scalar.Scalar.{Scalar}
use Rattle.mos_text.specs.declared.scalar.Scalar.TheVariants.{Int, Bool as Truth, Str}
use Rattle.mos_sorts.specs.declared.value.Value.{Value}
use Rattle.mos_sorts.specs.declared.value.Value.TheVariants as v
use Rattle.mos_value.specs.declared.fault.ValueFault.{ValueFault}
use Rattle.mos_value.specs.declared.fault.ValueFault.TheVariants as value_fault
use Rattle.mos_constants.specs.declared.no_value.NoValue.{NoValue}
use Rattle.mos_constants.specs.declared.no_value.NoValue.TheVariants as no_value

-- an integer, unless it is a fault
abbrev pub integer_found : Result ℤ FaultKind → Option Value
integer_found (Ok n) = Some (v.One (Int n))
integer_found (Err kind) = None

-- a text, unless it is a fault
abbrev pub text_found : Result (List ℕ) FaultKind → Option Value
text_found (Ok text) = Some (v.One (Str text))
text_found (Err kind) = None

-- a set, unless it is a fault
abbrev pub set_found : Result (List Scalar) FaultKind → Option Value
set_found (Ok members) = Some (v.Set members)
set_found (Err kind) = None

-- a list, unless it is a fault
abbrev pub list_found : Result (List Scalar) FaultKind → Option Value
list_found (Ok items) = Some (v.List items)
list_found (Err kind) = None

-- what is found, unless it is a fault
abbrev pub unless_fault : {A : Type 0} → Result A FaultKind → Option A
unless_fault (Ok found) = Some found
unless_fault (Err kind) = None

-- a truth
abbrev pub truth_value : Bool → Value
truth_value b = v.One (Truth b)

-- why an operator of values has none
abbrev pub no_value_of : ValueFault → NoValue
no_value_of (value_fault.Fault kind) = no_value.Fault
no_value_of value_fault.NoMemory = no_value.NoMemory

-- the call finds what the definition gives, or that it gives nothing, unless it wanted memory
abbrev pub Finds : {A : Type 0} → Result A NoValue → Option A → Type 0
Finds (Ok x) defined = defined ≡ Some x
Finds (Err no_value.Fault) defined = defined ≡ None
Finds (Err no_value.NoMemory) defined = Unit {0}
