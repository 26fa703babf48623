-- Where the rules want a point: where an instruction leads, and behind one that leaves its part.

use Rattle.std.specs.Prelude.{◌+◌, ℕ, Bool, false, List, [], ◌∷◌, Option, Some, None, nat_eq, ◌||◌, if◌then◌else◌}
use Rattle.bim_code.specs.declared.image.Point.{Point}
use Rattle.bim_code.specs.declared.instruction.Instruction.{Instruction}
use Rattle.bim_code.specs.Rows.{width, named_address}
use Rattle.bim_code.specs.Rules.{leaves_part}

-- it is this address
abbrev pub is_at : Option ℕ → ℕ → Bool
is_at None address = false
is_at (Some n) address = nat_eq n address

-- the address behind an instruction that leaves its part
abbrev pub behind : ℕ → Instruction → Option ℕ
behind at i = if leaves_part i then Some (at + width i) else None

-- an instruction at `at` wants a point there
abbrev pub wants : ℕ → Instruction → ℕ → Bool
wants at i address = is_at (named_address i) address || is_at (behind at i) address

-- code that begins at `at` does
abbrev pub is_wanted_from : ℕ → List Instruction → ℕ → Bool
is_wanted_from at [] address = false
is_wanted_from at (i ∷ is) address = wants at i address || is_wanted_from (at + width i) is address

-- the whole code
abbrev pub is_wanted : List Instruction → ℕ → Bool
is_wanted code address = is_wanted_from 0 code address

-- a point that tells that the stack is empty
abbrev pub empty_point : ℕ → Point
empty_point at = record { address = at; stack = [] }

-- such points at the addresses that are chosen, of code that begins at `at`
abbrev pub empty_points : (ℕ → Bool) → ℕ → List Instruction → List Point
empty_points chosen at [] = []
empty_points chosen at (i ∷ is) =
    if chosen at then empty_point at ∷ empty_points chosen (at + width i) is else empty_points chosen (at + width i) is
