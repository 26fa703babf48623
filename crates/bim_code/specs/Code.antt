-- Code as a list of instructions that begin at byte addresses.
use Rattle.std.specs.Prelude.{ℕ, ◌+◌, List, [], ◌∷◌, ◌++◌, Option, Some, None, take, flat_map, nat_eq, if◌then◌else◌}
use Rattle.bim_code.specs.declared.instruction.Instruction.{Instruction}
use Rattle.bim_code.specs.Bytes.{u32_bytes}
use Rattle.bim_code.specs.Rows.{row_of, width}

-- the bytes of one instruction: its code, then its operands
abbrev pub instruction_bytes : Instruction → List ℕ
instruction_bytes instruction = (row_of instruction).code ∷ flat_map u32_bytes (row_of instruction).operands

-- how many bytes code takes
abbrev pub code_size : List Instruction → ℕ
code_size [] = 0
code_size (i ∷ is) = width i + code_size is

-- where the instruction of number k begins: the widths before it
abbrev pub address_of : List Instruction → ℕ → ℕ
address_of code k = code_size (take k code)

-- the instruction that begins at an address, of code that begins at the address `at`
abbrev pub instruction_from : ℕ → List Instruction → ℕ → Option Instruction
instruction_from at [] address = None
instruction_from at (i ∷ is) address = if nat_eq at address then Some i else instruction_from (at + width i) is address

-- the instruction that begins at an address of the whole code
abbrev pub instruction_at : List Instruction → ℕ → Option Instruction
instruction_at code address = instruction_from 0 code address

-- the code's part of the file: its length in bytes, then the instructions
unfoldable pub code_bytes : List Instruction → List ℕ
code_bytes code = u32_bytes (code_size code) ++ flat_map instruction_bytes code
