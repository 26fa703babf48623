-- The rules on instructions, but for those on the operand stack.

use Rattle.std.specs.Prelude.{ℕ, ◌+◌, Bool, true, false, List, [], ◌∷◌, ◌++◌, Option, Some, None, nat_lt, nat_le, nat_eq, ◌&&◌, ◌||◌}
use Rattle.bim_code.specs.declared.image.Image.{Image}
use Rattle.bim_code.specs.declared.instruction.Instruction.{Instruction}
use Rattle.bim_code.specs.declared.instruction.Instruction.TheVariants.{Tick, PushInt, PushBool, PushText, LoadGlobal, StoreGlobal, Swap, Add, Subtract, Compare, Jump, JumpIf, JumpNot, Show, Write, Line, End, Fault}
use Rattle.bim_code.specs.Code.{instruction_at}
use Rattle.bim_code.specs.Rows.{width, named_address}
use Rattle.bim_code.specs.Rules.{part_of, leaves_part}
use Rattle.bim_rules.specs.declared.breach.Breach.{Breach}
use Rattle.bim_rules.specs.declared.breach.Rule.TheVariants.{Numbers, Addresses, Ends, Ticks}
use Rattle.bim_rules.specs.declared.breach.Table.TheVariants as table
use Rattle.bim_rules.specs.Breaches.{mark}
use Rattle.bim_rules.specs.Parts.{is_begun, is_in_part}
use Rattle.bim_rules.specs.Types.{is_constant}
use Rattle.bim_rules.specs.Tables.{is_global}

-- the operand is within its table, or one of the values that mean something
abbrev pub has_number : Image → Instruction → Bool
has_number image (PushBool n) = nat_lt n 2
has_number image (PushText constant) = is_constant image constant
has_number image (LoadGlobal slot) = is_global image slot
has_number image (StoreGlobal slot) = is_global image slot
has_number image (Fault kind) = nat_le 1 kind && nat_le kind 12
has_number image Tick = true
has_number image (PushInt n) = true
has_number image Swap = true
has_number image Add = true
has_number image Subtract = true
has_number image (Compare comparison) = true
has_number image (Jump address) = true
has_number image (JumpIf address) = true
has_number image (JumpNot address) = true
has_number image Show = true
has_number image Write = true
has_number image Line = true
has_number image End = true

-- the address that is named, if one is, is that of an instruction of the same part
abbrev pub names_in_part : Image → ℕ → Option ℕ → Bool
names_in_part image at None = true
names_in_part image at (Some address) = is_in_part image at address

-- an instruction leaves its part, or another one of the same part stands behind it
abbrev pub goes_on : Image → ℕ → Instruction → Bool
goes_on image at i = leaves_part i || is_in_part image at (at + width i)

-- a tick
abbrev pub is_tick : Option Instruction → Bool
is_tick (Some Tick) = true
is_tick _ = false

-- the address that is named, if one is, lies behind, or a tick stands there
abbrev pub takes_tick : Image → ℕ → Option ℕ → Bool
takes_tick image at None = true
takes_tick image at (Some address) = nat_lt at address || is_tick (instruction_at image.code address)

-- the breaches by the instruction at an address
unfoldable pub instruction_breaches : Image → ℕ → Instruction → List Breach
instruction_breaches image at i =
    mark Numbers table.Code at (has_number image i)
    ++ (mark Addresses table.Code at (names_in_part image at (named_address i))
    ++ (mark Ends table.Code at (goes_on image at i)
    ++ mark Ticks table.Code at (takes_tick image at (named_address i))))

-- the breaches by code that begins at an address
abbrev pub code_breaches : Image → ℕ → List Instruction → List Breach
code_breaches image at [] = []
code_breaches image at (i ∷ is) = instruction_breaches image at i ++ code_breaches image (at + width i) is

-- the main part has an instruction
abbrev pub has_main : Image → Bool
has_main image = is_begun image 0 && nat_eq (part_of image.routines 0) 0
