-- As the code goes about it: code by its bytes, at each the instruction that begins there, if one does; and
-- the addresses of the routines in rising order.

use Rattle.std.specs.Prelude.{ℕ, ◌-◌, ◌≡◌, IsPermutation, List, [], ◌∷◌, ◌++◌, Option, Some, None, map, replicate, slice_get, unwrap_or, leb, cond}
use Rattle.std.specs.List.{sum_by}
use Rattle.std.specs.List.Sorted.{IsNonDecreasingBy}
use Rattle.bim_code.specs.declared.image.Image.{Image}
use Rattle.bim_code.specs.declared.image.Routine.{Routine}
use Rattle.bim_code.specs.declared.instruction.Instruction.{Instruction}
use Rattle.bim_code.specs.Rows.{width}

-- the bytes of an instruction: it begins at the first
abbrev pub cells_of : Instruction → List (Option Instruction)
cells_of i = Some i ∷ replicate (width i - 1) None

-- the bytes of code
abbrev pub by_address : List Instruction → List (Option Instruction)
by_address [] = []
by_address (i ∷ is) = cells_of i ++ by_address is

-- what begins at this byte
abbrev pub found_at : List (Option Instruction) → ℕ → Option Instruction
found_at cells address = unwrap_or (slice_get cells address) None

-- where the routines begin
abbrev pub addresses_of : List Routine → List ℕ
addresses_of routines = map (λ (r : Routine). r.address) routines

-- one for a number that is at most the other
abbrev pub one_up_to : ℕ → ℕ → ℕ
one_up_to most n = cond (leb n most) 1 0

-- how many are at most this
abbrev pub many_up_to : ℕ → List ℕ → ℕ
many_up_to most all = sum_by (one_up_to most) all

-- what stands beside an image in its map
pub record IsMapOf (image : Image) (cells : List (Option Instruction)) (starts : List ℕ) : Type 0 where
  pub cells_are : cells ≡ by_address image.code
  pub rise : IsNonDecreasingBy (λ (n : ℕ). n) starts
  pub same : IsPermutation (addresses_of image.routines) starts
