-- Where instructions begin: the address of each is the sum of the widths before it.

use Rattle.std.specs.Prelude.{◌≡◌, ℕ, List, Some, slice_get}
use Rattle.bim_code.specs.declared.instruction.Instruction.{Instruction}
use Rattle.bim_code.specs.Code.{instruction_at, address_of}

-- the instruction of number k begins there
abbrev pub BeginsAtSum : Type 0
BeginsAtSum = (code : List Instruction) (k : ℕ) (i : Instruction) → slice_get code k ≡ Some i → instruction_at code (address_of code k) ≡ Some i

-- one of the code that begins at an address, with its number
pub record IsNumbered (code : List Instruction) (address : ℕ) (i : Instruction) : Type 0 where
  pub number : ℕ
  pub numbered : slice_get code number ≡ Some i
  pub address_is : address_of code number ≡ address

-- and no other begins anywhere
abbrev pub NoneElsewhere : Type 0
NoneElsewhere = (code : List Instruction) (address : ℕ) (i : Instruction) → instruction_at code address ≡ Some i → IsNumbered code address i
