-- What a call that takes memory owes to the definition of its operator.

use Rattle.std.specs.Prelude.{◌≡◌, Result, Ok, Err}
use Rattle.mos_text.specs.declared.fault_kind.FaultKind.{FaultKind}
use Rattle.mos_value.specs.declared.fault.ValueFault.{ValueFault}
use Rattle.mos_value.specs.declared.fault.ValueFault.TheVariants.{Fault, NoMemory}

-- the call answers what the definition gives, a result or a fault, unless it wanted memory
abbrev pub UpToMemory : {A : Type 0} → Result A ValueFault → Result A FaultKind → Type 0
UpToMemory (Ok x) defined = defined ≡ Ok x
UpToMemory (Err (Fault kind)) defined = defined ≡ Err kind
UpToMemory (Err NoMemory) defined = Unit {0}

-- why a call has no result: the fault of the definition, or that it wanted memory
abbrev pub IsCause : {A : Type 0} → ValueFault → Result A FaultKind → Type 0
IsCause (Fault kind) defined = defined ≡ Err kind
IsCause NoMemory defined = Unit {0}

-- a call that changes a value leaves it as what the definition gives, or where it refuses as it was before
abbrev pub Becomes : {A U : Type 0} → (before after : A) → Result U ValueFault → Result A FaultKind → Type 0
Becomes before after (Ok _) defined = defined ≡ Ok after
Becomes before after (Err fault) defined = IsCause fault defined × (after ≡ before)
