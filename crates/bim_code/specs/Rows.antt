-- The table of instructions: one row each, with the code byte, the printed name, and the operands as
-- the file has them.
use Rattle.std.specs.Prelude.{ℕ, ◌+◌, ◌*◌, List, [], ◌∷◌, Option, Some, None, length, codes}
use Rattle.std.specs.Int.{w32, cast_unsigned}
use Rattle.bim_code.specs.declared.instruction.Comparison.{Comparison}
use Rattle.bim_code.specs.declared.instruction.Comparison.TheVariants.{Equal, NotEqual, Less, AtMost, Greater, AtLeast}
use Rattle.bim_code.specs.declared.instruction.Instruction.{Instruction}
use Rattle.bim_code.specs.declared.instruction.Instruction.TheVariants.{Tick, PushInt, PushBool, PushText, LoadGlobal, StoreGlobal, Swap, Add, Subtract, Compare, Jump, JumpIf, JumpNot, Show, Write, Line, End, Fault}
use Rattle.bim_code.specs.declared.operands.Operands.{Operands}
use Rattle.bim_code.specs.declared.operands.Operands.TheVariants as operands

-- a code byte, a name, and operands, each of which takes 4 bytes
pub record Row : Type 0 where
  pub code : ℕ
  pub name : List ℕ
  pub operands : List ℕ

-- operands in their order
abbrev pub operand_list : Operands → List ℕ
operand_list operands.None = []
operand_list (operands.One n) = n ∷ []
operand_list (operands.Two n m) = n ∷ m ∷ []

-- a row by its columns
abbrev pub row : ℕ → List ℕ → List ℕ → Row
row code name operands = record { code = code; name = name; operands = operands }

-- the code byte of each comparison
abbrev pub code_of_comparison : Comparison → ℕ
code_of_comparison Equal = 0x1B
code_of_comparison NotEqual = 0x1C
code_of_comparison Less = 0x1D
code_of_comparison AtMost = 0x1E
code_of_comparison Greater = 0x1F
code_of_comparison AtLeast = 0x20

-- the name of each
abbrev pub name_of_comparison : Comparison → List ℕ
name_of_comparison Equal = codes "Eq"
name_of_comparison NotEqual = codes "Ne"
name_of_comparison Less = codes "Lt"
name_of_comparison AtMost = codes "Le"
name_of_comparison Greater = codes "Gt"
name_of_comparison AtLeast = codes "Ge"

-- an integer is its two's complement
abbrev pub row_of : Instruction → Row
row_of Tick = row 0x01 (codes "Tick") []
row_of (PushInt n) = row 0x03 (codes "PushInt") (cast_unsigned w32 n ∷ [])
row_of (PushBool n) = row 0x04 (codes "PushBool") (n ∷ [])
row_of (PushText constant) = row 0x05 (codes "PushStr") (constant ∷ [])
row_of (LoadGlobal slot) = row 0x08 (codes "LoadG") (slot ∷ [])
row_of (StoreGlobal slot) = row 0x09 (codes "StoreG") (slot ∷ [])
row_of Swap = row 0x12 (codes "Swap") []
row_of Add = row 0x13 (codes "Add") []
row_of Subtract = row 0x14 (codes "Sub") []
row_of (Compare comparison) = row (code_of_comparison comparison) (name_of_comparison comparison) []
row_of (Jump address) = row 0x22 (codes "Jump") (address ∷ [])
row_of (JumpIf address) = row 0x23 (codes "JumpIf") (address ∷ [])
row_of (JumpNot address) = row 0x24 (codes "JumpNot") (address ∷ [])
row_of Show = row 0x1A (codes "Show") []
row_of Write = row 0x43 (codes "Write") []
row_of Line = row 0x44 (codes "Line") []
row_of End = row 0x45 (codes "End") []
row_of (Fault kind) = row 0x46 (codes "Fault") (kind ∷ [])

-- how many bytes an instruction takes
abbrev pub width : Instruction → ℕ
width instruction = 1 + 4 * length (row_of instruction).operands

-- the address that an instruction names, if it names one
abbrev pub named_address : Instruction → Option ℕ
named_address (Jump address) = Some address
named_address (JumpIf address) = Some address
named_address (JumpNot address) = Some address
named_address Tick = None
named_address (PushInt n) = None
named_address (PushBool n) = None
named_address (PushText constant) = None
named_address (LoadGlobal slot) = None
named_address (StoreGlobal slot) = None
named_address Swap = None
named_address Add = None
named_address Subtract = None
named_address (Compare comparison) = None
named_address Show = None
named_address Write = None
named_address Line = None
named_address End = None
named_address (Fault kind) = None
