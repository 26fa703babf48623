-- Computed examples of the bytes of an image.
use Rattle.std.specs.Prelude.{◌≡◌, List, [], ◌∷◌, Some, None, pos, negsuc, true, false, map, codes}
use Rattle.bim_code.specs.declared.image.Image.{Image}
use Rattle.bim_code.specs.declared.image.ImageType.TheVariants.{Integer, Boolean, Str, Model, Event, Range, Set, List as ListOf, Array, Record}
use Rattle.bim_code.specs.declared.image.Default.TheVariants.{Number, Truth, Constant}
use Rattle.bim_code.specs.declared.image.Form.TheVariants.{Value, Place, Walk}
use Rattle.bim_code.specs.declared.instruction.Comparison.TheVariants.{Equal, NotEqual, Less, AtMost, Greater, AtLeast}
use Rattle.bim_code.specs.declared.instruction.Instruction.{Instruction}
use Rattle.bim_code.specs.declared.instruction.Instruction.TheVariants.{Tick, PushInt, PushBool, PushText, LoadGlobal, StoreGlobal, Swap, Add, Subtract, Compare, Jump, JumpIf, JumpNot, Show, Write, Line, End, Fault}
use Rattle.bim_code.specs.Code.{instruction_at, address_of}
use Rattle.bim_code.specs.Tables.{image_bytes}

-- the image that ends at once with code 0
abbrev pub ends_at_once : Image
ends_at_once = record {
  constants = [];
  types = [];
  params = [];
  globals = [];
  routines = [];
  points = [];
  code = PushInt (pos 0) ∷ End ∷ [];
}

-- its 34 bytes
abbrev pub EndsAtOnceBytes : Type 0
EndsAtOnceBytes = image_bytes ends_at_once ≡
    0x4d ∷ 0x42 ∷ 0x49 ∷ 0x4d ∷ 0 ∷ 1
    ∷ 0 ∷ 0 ∷ 0 ∷ 0
    ∷ 0 ∷ 0
    ∷ 0 ∷ 0
    ∷ 0 ∷ 0 ∷ 0 ∷ 0
    ∷ 0 ∷ 0
    ∷ 0 ∷ 0 ∷ 0 ∷ 0
    ∷ 0 ∷ 0 ∷ 0 ∷ 6 ∷ 3 ∷ 0 ∷ 0 ∷ 0 ∷ 0 ∷ 0x45 ∷ []

-- one of each instruction
abbrev pub every_instruction : List Instruction
every_instruction =
    Tick ∷ PushInt (negsuc 1) ∷ PushBool 1 ∷ PushText 1 ∷ LoadGlobal 258 ∷ StoreGlobal 1 ∷ Add ∷ Subtract ∷ Show
    ∷ Write ∷ Line ∷ End ∷ Fault 1 ∷ Swap ∷ Compare Equal ∷ Compare NotEqual ∷ Compare Less ∷ Compare AtMost
    ∷ Compare Greater ∷ Compare AtLeast ∷ Jump 37 ∷ JumpIf 0 ∷ JumpNot 258 ∷ []

-- an image with an entry of each kind in each part
abbrev pub every_part : Image
every_part = record {
  constants = codes "n" ∷ (0xc3 ∷ 0xa9 ∷ []) ∷ [];
  types =
      Integer ∷ Boolean ∷ Str ∷ Model ∷ Event ∷ Range ∷ Set 0 ∷ ListOf 2 ∷ Array true (0 ∷ 1 ∷ []) 2
      ∷ Record (record { name = 0; typ = 1 } ∷ []) ∷ [];
  params =
      record { name = 0; slot = 1; default = Number (negsuc 1) }
      ∷ record { name = 1; slot = 2; default = Truth true }
      ∷ record { name = 1; slot = 3; default = Constant 1 }
      ∷ [];
  globals = 0 ∷ 9 ∷ [];
  routines =
      record {
        address = 6;
        arguments = 1;
        slots = record { typ = 7; by_reference = true } ∷ record { typ = 0; by_reference = false } ∷ [];
        result = Some 0;
      }
      ∷ record { address = 256; arguments = 0; slots = []; result = None }
      ∷ [];
  points =
      record {
        address = 11;
        stack = record { typ = 0; form = Value } ∷ record { typ = 7; form = Place } ∷ record { typ = 8; form = Walk } ∷ [];
      }
      ∷ [];
  code = every_instruction;
}

-- its bytes, by lines: heading; constants; types; parameters; globals; routines; points; code
abbrev pub EveryPartBytes : Type 0
EveryPartBytes = image_bytes every_part ≡
    0x4d ∷ 0x42 ∷ 0x49 ∷ 0x4d ∷ 0 ∷ 1
    ∷ 0 ∷ 0 ∷ 0 ∷ 2 ∷ 0 ∷ 0 ∷ 0 ∷ 1 ∷ 0x6e ∷ 0 ∷ 0 ∷ 0 ∷ 2 ∷ 0xc3 ∷ 0xa9
    ∷ 0 ∷ 10 ∷ 1 ∷ 2 ∷ 3 ∷ 4 ∷ 5 ∷ 6 ∷ 7 ∷ 0 ∷ 0 ∷ 8 ∷ 0 ∷ 2 ∷ 9 ∷ 1 ∷ 2 ∷ 0 ∷ 0 ∷ 0 ∷ 1 ∷ 0 ∷ 2
    ∷ 10 ∷ 0 ∷ 1 ∷ 0 ∷ 0 ∷ 0 ∷ 0 ∷ 0 ∷ 1
    ∷ 0 ∷ 3 ∷ 0 ∷ 0 ∷ 0 ∷ 0 ∷ 0 ∷ 0 ∷ 0 ∷ 1 ∷ 1 ∷ 0xff ∷ 0xff ∷ 0xff ∷ 0xfe
    ∷ 0 ∷ 0 ∷ 0 ∷ 1 ∷ 0 ∷ 0 ∷ 0 ∷ 2 ∷ 2 ∷ 1 ∷ 0 ∷ 0 ∷ 0 ∷ 1 ∷ 0 ∷ 0 ∷ 0 ∷ 3 ∷ 3 ∷ 0 ∷ 0 ∷ 0 ∷ 1
    ∷ 0 ∷ 0 ∷ 0 ∷ 2 ∷ 0 ∷ 0 ∷ 0 ∷ 9
    ∷ 0 ∷ 2 ∷ 0 ∷ 0 ∷ 0 ∷ 6 ∷ 0 ∷ 1 ∷ 0 ∷ 2 ∷ 0 ∷ 7 ∷ 1 ∷ 0 ∷ 0 ∷ 0 ∷ 0 ∷ 0
    ∷ 0 ∷ 0 ∷ 1 ∷ 0 ∷ 0 ∷ 0 ∷ 0 ∷ 0 ∷ 0xff ∷ 0xff
    ∷ 0 ∷ 0 ∷ 0 ∷ 1 ∷ 0 ∷ 0 ∷ 0 ∷ 11 ∷ 0 ∷ 3 ∷ 0 ∷ 0 ∷ 0 ∷ 0 ∷ 7 ∷ 1 ∷ 0 ∷ 8 ∷ 2
    ∷ 0 ∷ 0 ∷ 0 ∷ 59 ∷ 1 ∷ 3 ∷ 0xff ∷ 0xff ∷ 0xff ∷ 0xfe ∷ 4 ∷ 0 ∷ 0 ∷ 0 ∷ 1 ∷ 5 ∷ 0 ∷ 0 ∷ 0 ∷ 1
    ∷ 8 ∷ 0 ∷ 0 ∷ 1 ∷ 2 ∷ 9 ∷ 0 ∷ 0 ∷ 0 ∷ 1 ∷ 0x13 ∷ 0x14 ∷ 0x1a ∷ 0x43 ∷ 0x44 ∷ 0x45 ∷ 0x46 ∷ 0 ∷ 0 ∷ 0 ∷ 1
    ∷ 0x12 ∷ 0x1b ∷ 0x1c ∷ 0x1d ∷ 0x1e ∷ 0x1f ∷ 0x20 ∷ 0x22 ∷ 0 ∷ 0 ∷ 0 ∷ 37 ∷ 0x23 ∷ 0 ∷ 0 ∷ 0 ∷ 0 ∷ 0x24 ∷ 0 ∷ 0 ∷ 1 ∷ 2 ∷ []

-- the first address, one inside an instruction, that of a later instruction, and the end of the code
abbrev pub Addresses : Type 0
Addresses =
    map (instruction_at every_instruction) (0 ∷ 3 ∷ address_of every_instruction 2 ∷ 59 ∷ [])
    ≡ Some Tick ∷ None ∷ Some (PushBool 1) ∷ None ∷ []
