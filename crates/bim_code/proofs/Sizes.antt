-- How large code and the parts of types are.
use Rattle.std.proofs.Common.{◌*◌, ◌≤◌, List, [], ◌∷◌, length, arith}
use Rattle.bim_code.specs.declared.image.ImageType.{ImageType}
use Rattle.bim_code.specs.declared.image.ImageType.TheVariants.{Integer, Boolean, Str, Model, Event, Range, Set, List as ListOf, Array, Record}
use Rattle.bim_code.specs.declared.instruction.Instruction.{Instruction}
use Rattle.bim_code.specs.declared.instruction.Instruction.TheVariants.{Tick, PushInt, PushBool, PushText, LoadGlobal, StoreGlobal, Swap, Add, Subtract, Compare, Jump, JumpIf, JumpNot, Show, Write, Line, End, Fault}
use Rattle.bim_code.specs.Code.{code_size}
use Rattle.bim_code.specs.Limits.{TypeInRange, TypeWithin}
use Rattle.bim_code.specs.Rows.{width}

pub width_at_most : (i : Instruction) → width i ≤ 5
width_at_most Tick = omega arith
width_at_most (PushInt n) = omega arith
width_at_most (PushBool b) = omega arith
width_at_most (PushText c) = omega arith
width_at_most (LoadGlobal s) = omega arith
width_at_most (StoreGlobal s) = omega arith
width_at_most Swap = omega arith
width_at_most (Compare comparison) = omega arith
width_at_most (Jump address) = omega arith
width_at_most (JumpIf address) = omega arith
width_at_most (JumpNot address) = omega arith
width_at_most Add = omega arith
width_at_most Subtract = omega arith
width_at_most Show = omega arith
width_at_most Write = omega arith
width_at_most Line = omega arith
width_at_most End = omega arith
width_at_most (Fault k) = omega arith

pub code_size_at_most : (code : List Instruction) → code_size code ≤ 5 * length code
code_size_at_most [] = omega arith
code_size_at_most (i ∷ is) = let one = width_at_most i in let rest = code_size_at_most is in omega arith

pub type_fits : (t : ImageType) → TypeWithin t → TypeInRange t
type_fits Integer h = tt
type_fits Boolean h = tt
type_fits Str h = tt
type_fits Model h = tt
type_fits Event h = tt
type_fits Range h = tt
type_fits (Set member) h = tt
type_fits (ListOf member) h = tt
type_fits (Array dynamic indexes cell) h = let most = h.1 in omega arith
type_fits (Record fields) h = h
