-- The listing of code: a line for each instruction.
use Rattle.std.specs.Prelude.{ℕ, ◌+◌, ℤ, List, [], ◌∷◌, ◌++◌, Option, Some, None, map, flat_map, codes, decimal}
use Rattle.std.specs.Fmt.{signed_decimal}
use Rattle.bim_code.specs.declared.image.Image.{Image}
use Rattle.bim_code.specs.declared.instruction.Instruction.{Instruction}
use Rattle.bim_code.specs.declared.instruction.Instruction.TheVariants.{Tick, PushInt, PushBool, PushText, LoadGlobal, StoreGlobal, Swap, Add, Subtract, Compare, Jump, JumpIf, JumpNot, Show, Write, Line, End, Fault}
use Rattle.bim_code.specs.Rows.{row_of, width}

-- the integer that an instruction puts on the stack
abbrev pub integer_of : Instruction → Option ℤ
integer_of (PushInt n) = Some n
integer_of (PushBool n) = None
integer_of (PushText constant) = None
integer_of (LoadGlobal slot) = None
integer_of (StoreGlobal slot) = None
integer_of (Jump address) = None
integer_of (JumpIf address) = None
integer_of (JumpNot address) = None
integer_of (Fault kind) = None
integer_of (Compare comparison) = None
integer_of Tick = None
integer_of Swap = None
integer_of Add = None
integer_of Subtract = None
integer_of Show = None
integer_of Write = None
integer_of Line = None
integer_of End = None

-- an integer with its sign, else the operands of the row
abbrev pub shown : Option ℤ → List ℕ → List (List ℕ)
shown (Some n) operands = signed_decimal n ∷ []
shown None operands = map decimal operands

-- the operands as they are printed
abbrev pub shown_operands : Instruction → List (List ℕ)
shown_operands i = shown (integer_of i) (row_of i).operands

-- a word with a space before it
abbrev pub spaced : List ℕ → List ℕ
spaced word = codes " " ++ word

-- an instruction at an address
unfoldable pub line_of : ℕ → Instruction → List ℕ
line_of at i = decimal at ++ spaced (row_of i).name ++ flat_map spaced (shown_operands i) ++ codes "\n"

-- code that begins at an address
abbrev pub lines_from : ℕ → List Instruction → List ℕ
lines_from at [] = []
lines_from at (i ∷ is) = line_of at i ++ lines_from (at + width i) is

-- the code of an image
unfoldable pub listing : Image → List ℕ
listing image = lines_from 0 image.code
