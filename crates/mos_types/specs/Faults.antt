-- The verdict on one piece: the line and the kind of what counts, where a rule is broken.

use Rattle.std.specs.Prelude.{ℕ, Option, Some, None, Result, Ok, Err}
use Rattle.mos_text.specs.declared.kind.Kind.{Kind}
use Rattle.mos_types.specs.declared.fault.TypeFault.{TypeFault}
use Rattle.mos_types.specs.declared.fault.TypeFault.TheVariants as fault

-- the line of a piece at fault, and the kind of its fault
abbrev pub Fault : Type 0
Fault = ℕ × Kind

-- the verdict on a piece on this line, by what counts of its rules
abbrev pub judged : {A : Type 0} → ℕ → Option Kind → A → Result A Fault
judged line None a = Ok a
judged line (Some kind) a = Err (line, kind)

-- what is said of the answer, where it is that a rule is broken; nothing of want of memory
abbrev pub IfAt : {A : Type 0} → Result A TypeFault → (Fault → Type 0) → Type 0
IfAt (Ok a) P = Unit {0}
IfAt (Err fault.NoMemory) P = Unit {0}
IfAt (Err (fault.At line kind)) P = P (line, kind)
