-- The code's part of the file.

use Rattle.std.specs.Prelude.{ℕ, zero, suc, ◌-◌, List, [], ◌∷◌, length, Option, Some, None, Ok, Err, nat_lt, nat_eq, if◌then◌else◌}
use Rattle.std.specs.Int.{w32, cast_signed}
use Rattle.bim_code.specs.declared.instruction.Instruction.{Instruction}
use Rattle.bim_code.specs.declared.instruction.Instruction.TheVariants.{Tick, PushInt, PushBool, PushText, LoadGlobal, StoreGlobal, Swap, Add, Subtract, Compare, Jump, JumpIf, JumpNot, Show, Write, Line, End, Fault}
use Rattle.bim_code.specs.Rows.{row_of, width}
use Rattle.bim_read.specs.declared.fault.FaultKind.TheVariants.{Limit, Unknown}
use Rattle.bim_read.specs.declared.code.TheConstants.{INSTRUCTIONS}
use Rattle.bim_read.specs.Reading.{Found, ◌>>=◌, wrong, ends_early, made, chosen}
use Rattle.bim_read.specs.Fields.{byte_at, word_at}

-- the first instruction with this code byte
abbrev pub first_with : ℕ → List Instruction → Option Instruction
first_with code [] = None
first_with code (i ∷ is) = if nat_eq (row_of i).code code then Some i else first_with code is

-- the one of all instructions, its operand left open
unfoldable pub instruction_of : ℕ → Option Instruction
instruction_of code = first_with code INSTRUCTIONS

-- with this operand, where it has one
abbrev pub with_operand : Instruction → ℕ → Instruction
with_operand (PushInt n) operand = PushInt (cast_signed w32 operand)
with_operand (PushBool n) operand = PushBool operand
with_operand (PushText n) operand = PushText operand
with_operand (LoadGlobal n) operand = LoadGlobal operand
with_operand (StoreGlobal n) operand = StoreGlobal operand
with_operand (Jump n) operand = Jump operand
with_operand (JumpIf n) operand = JumpIf operand
with_operand (JumpNot n) operand = JumpNot operand
with_operand (Fault n) operand = Fault operand
with_operand Tick operand = Tick
with_operand Swap operand = Swap
with_operand Add operand = Add
with_operand Subtract operand = Subtract
with_operand (Compare comparison) operand = Compare comparison
with_operand Show operand = Show
with_operand Write operand = Write
with_operand Line operand = Line
with_operand End operand = End

-- the operands of an instruction: none, or one
abbrev pub operands_at : Instruction → List ℕ → List ℕ → Found Instruction
operands_at i [] bytes = Ok (i, bytes)
operands_at i (n ∷ more) bytes = made (with_operand i) word_at bytes

-- one that begins where there are so many bytes, behind its code byte; it takes no more bytes than the code has left
abbrev pub begun_at : Instruction → ℕ → ℕ → List ℕ → Found Instruction
begun_at i left size bytes =
    if nat_lt size (width i) then Err (record { left = left; kind = Limit }) else operands_at i (row_of i).operands bytes

-- an instruction of code that has so many bytes left
unfoldable pub instruction_in : ℕ → List ℕ → Found Instruction
instruction_in size bytes = chosen instruction_of Unknown byte_at bytes >>= λ i. begun_at i.0 (length bytes) size i.1

-- no code is left
abbrev pub code_ends : ℕ → List ℕ → Found (List Instruction)
code_ends size bytes = if nat_eq size 0 then Ok ([], bytes) else wrong Limit bytes

-- code of so many bytes, in at most so many instructions
unfoldable pub instructions_at : ℕ → ℕ → List ℕ → Found (List Instruction)
instructions_at zero size bytes = code_ends size bytes
instructions_at (suc most) size bytes =
    if nat_eq size 0 then Ok ([], bytes) else (
    instruction_in size bytes >>= λ i.
    instructions_at most (size - width i.0) i.1 >>= λ others.
    Ok (i.0 ∷ others.0, others.1))

-- code that is there whole
abbrev pub code_of : ℕ → List ℕ → Found (List Instruction)
code_of size bytes = if nat_lt (length bytes) size then ends_early else instructions_at 262144 size bytes

-- the length of the code in bytes, then at most 262,144 instructions
unfoldable pub code_at : List ℕ → Found (List Instruction)
code_at bytes = word_at bytes >>= λ size. code_of size.0 size.1
