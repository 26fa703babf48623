-- As the code goes about it: for each byte of the code whether a point is wanted there.

use Rattle.std.specs.Prelude.{◌≡◌, ◌<◌, ℕ, Bool, true, false, List, Option, Some, None, length, get_or, slice_set, nat_lt, if◌then◌else◌}
use Rattle.bim_code.specs.declared.instruction.Instruction.{Instruction}
use Rattle.bim_code.specs.Rows.{named_address}
use Rattle.bim_points.specs.Wanted.{behind}

-- whether there is a mark
abbrev pub is_marked : List Bool → ℕ → Bool
is_marked marks address = get_or marks address false

-- a mark more, within the table
abbrev pub with_mark : List Bool → ℕ → List Bool
with_mark marks address = if nat_lt address (length marks) then slice_set marks address true else marks

-- one that may be
abbrev pub with_mark_at : List Bool → Option ℕ → List Bool
with_mark_at marks None = marks
with_mark_at marks (Some address) = with_mark marks address

-- those of an instruction
abbrev pub with_marks_of : List Bool → ℕ → Instruction → List Bool
with_marks_of marks at i = with_mark_at (with_mark_at marks (named_address i)) (behind at i)

-- the marks tell this of each byte
abbrev pub Marks : List Bool → (ℕ → Bool) → Type 0
Marks marks chosen = (address : ℕ) → address < length marks → is_marked marks address ≡ chosen address
