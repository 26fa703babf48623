-- As the code goes about it: code by its bytes, at each the instruction that begins there, if one does.

use Rattle.std.specs.Prelude.{ℕ, ◌-◌, List, [], ◌∷◌, ◌++◌, Option, Some, None, replicate, slice_get, unwrap_or}
use Rattle.bim_code.specs.declared.instruction.Instruction.{Instruction}
use Rattle.bim_code.specs.Rows.{width, named_address}

-- the bytes of an instruction: it begins at the first
abbrev pub cells_of : Instruction → List (Option Instruction)
cells_of i = Some i ∷ replicate (width i - 1) None

-- the bytes of code
abbrev pub by_address : List Instruction → List (Option Instruction)
by_address [] = []
by_address (i ∷ is) = cells_of i ++ by_address is

-- what begins at this byte
abbrev pub found_at : List (Option Instruction) → ℕ → Option Instruction
found_at cells address = unwrap_or (slice_get cells address) None

-- the address that an instruction names, or the one behind it
abbrev pub target : Instruction → ℕ → ℕ
target i next = unwrap_or (named_address i) next
