-- The parts of the code: the main part from address 0 on, and each routine from its address on.

use Rattle.std.specs.Prelude.{ℕ, ◌-◌, Bool, true, Option, Some, None, nat_eq, nat_lt, not, is_some}
use Rattle.std.specs.Prelude.{◌&&◌, ◌||◌}
use Rattle.bim_code.specs.declared.image.Image.{Image}
use Rattle.bim_code.specs.Code.{instruction_at}
use Rattle.bim_code.specs.Rules.{part_of}

-- an instruction begins there
abbrev pub is_begun : Image → ℕ → Bool
is_begun image address = is_some (instruction_at image.code address)

-- the main part begins there, or the number of the part is another one than just before
abbrev pub is_start : Image → ℕ → Bool
is_start image address = nat_eq address 0 || not (nat_eq (part_of image.routines address) (part_of image.routines (address - 1)))

-- an instruction begins there, in the part to which the other address belongs
abbrev pub is_in_part : Image → ℕ → ℕ → Bool
is_in_part image at address = is_begun image address && nat_eq (part_of image.routines address) (part_of image.routines at)

-- greater than the one before, if there is one
abbrev pub is_above : Option ℕ → ℕ → Bool
is_above None address = true
is_above (Some before) address = nat_lt before address
