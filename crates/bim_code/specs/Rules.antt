-- The rules that the verifier of images asks for, as far as they speak of numbers, tables, addresses and
-- ticks. The rules on the operand stack join them with the points of an image.

use Rattle.std.specs.Prelude.{◌≡◌, ◌≢◌, ◌≤◌, ◌<◌, ◌^◌, ◌+◌, ℕ, Bool, true, false, List, Option, Some, None, All, FitsSigned, length, map, take, filter, nat_le, slice_get}
use Rattle.std.specs.Int.{w32}
use Rattle.std.specs.Option.{IfSome}
use Rattle.bim_code.specs.declared.image.Image.{Image}
use Rattle.bim_code.specs.declared.image.ImageType.{ImageType}
use Rattle.bim_code.specs.declared.image.ImageType.TheVariants.{Integer, Boolean, Str, Model, Event, Range, Set, List as ListOf, Array, Record}
use Rattle.bim_code.specs.declared.image.Field.{Field}
use Rattle.bim_code.specs.declared.image.Parameter.{Parameter}
use Rattle.bim_code.specs.declared.image.Default.{Default}
use Rattle.bim_code.specs.declared.image.Default.TheVariants.{Number, Truth, Constant}
use Rattle.bim_code.specs.declared.image.Routine.{Routine}
use Rattle.bim_code.specs.declared.image.Slot.{Slot}
use Rattle.bim_code.specs.declared.image.Point.{Point}
use Rattle.bim_code.specs.declared.image.Operand.{Operand}
use Rattle.bim_code.specs.declared.instruction.Instruction.{Instruction}
use Rattle.bim_code.specs.declared.instruction.Instruction.TheVariants.{Tick, PushInt, PushBool, PushText, LoadGlobal, StoreGlobal, Swap, Add, Subtract, Compare, Jump, JumpIf, JumpNot, Show, Write, Line, End, Fault}
use Rattle.bim_code.specs.Rows.{width, named_address}
use Rattle.bim_code.specs.Code.{instruction_at}

-- Each number is within its table, and an operand that is to be one of a few values is one of them.

-- the operand of an instruction
abbrev pub HasNumber : Image → Instruction → Type 0
HasNumber image (PushInt n) = FitsSigned w32 n
HasNumber image (PushBool n) = n < 2
HasNumber image (PushText k) = k < length image.constants
HasNumber image (LoadGlobal slot) = slot < length image.globals
HasNumber image (StoreGlobal slot) = slot < length image.globals
HasNumber image (Jump address) = address < 2 ^ 32
HasNumber image (JumpIf address) = address < 2 ^ 32
HasNumber image (JumpNot address) = address < 2 ^ 32
HasNumber image (Fault kind) = (1 ≤ kind) × (kind ≤ 12)
HasNumber image Tick = Unit {0}
HasNumber image Swap = Unit {0}
HasNumber image Add = Unit {0}
HasNumber image Subtract = Unit {0}
HasNumber image (Compare comparison) = Unit {0}
HasNumber image Show = Unit {0}
HasNumber image Write = Unit {0}
HasNumber image Line = Unit {0}
HasNumber image End = Unit {0}

-- the default of a parameter
abbrev pub HasDefault : Image → Default → Type 0
HasDefault image (Number n) = FitsSigned w32 n
HasDefault image (Truth b) = Unit {0}
HasDefault image (Constant k) = k < length image.constants

-- the name, the slot and the default of a parameter
abbrev pub HasParameter : Image → Parameter → Type 0
HasParameter image p = (p.name < length image.constants) × (p.slot < length image.globals) × HasDefault image p.default

-- the parts of a type, and the names of its fields
abbrev pub HasParts : Image → ImageType → Type 0
HasParts image (Set member) = member < length image.types
HasParts image (ListOf member) = member < length image.types
HasParts image (Array dynamic indexes cell) = All (λ typ. typ < length image.types) indexes × (cell < length image.types)
HasParts image (Record fields) =
    All (λ (field : Field). (field.name < length image.constants) × (field.typ < length image.types)) fields
HasParts image Integer = Unit {0}
HasParts image Boolean = Unit {0}
HasParts image Str = Unit {0}
HasParts image Model = Unit {0}
HasParts image Event = Unit {0}
HasParts image Range = Unit {0}

-- the types in a routine, which has at most as many arguments as slots
pub record HasRoutine (image : Image) (routine : Routine) : Type 0 where
  pub slots : All (λ (slot : Slot). slot.typ < length image.types) routine.slots
  pub result : IfSome routine.result (λ typ. typ < length image.types)
  pub arguments : routine.arguments ≤ length routine.slots

-- the types in a point
abbrev pub HasPoint : Image → Point → Type 0
HasPoint image point = All (λ (operand : Operand). operand.typ < length image.types) point.stack

-- all of these
pub record HasNumbers (image : Image) : Type 0 where
  pub types : All (HasParts image) image.types
  pub parameters : All (HasParameter image) image.params
  pub globals : All (λ typ. typ < length image.types) image.globals
  pub routines : All (HasRoutine image) image.routines
  pub points : All (HasPoint image) image.points
  pub code : All (HasNumber image) image.code

-- Types are made of earlier ones, and flat.

-- what can be a member of a set or list, and an index of an array
abbrev pub IsMember : Option ImageType → Type 0
IsMember (Some Integer) = Unit {0}
IsMember (Some Boolean) = Unit {0}
IsMember (Some Str) = Unit {0}
IsMember _ = ⊥

-- a type without parts
abbrev pub IsScalar : Option ImageType → Type 0
IsScalar (Some Model) = Unit {0}
IsScalar (Some Event) = Unit {0}
IsScalar typ = IsMember typ

-- what can be in a cell of an array
abbrev pub IsCell : Option ImageType → Type 0
IsCell (Some (Record fields)) = Unit {0}
IsCell typ = IsScalar typ

-- the name of a field is a constant, and its type has no parts
abbrev pub IsField : List (List ℕ) → List ImageType → Field → Type 0
IsField constants earlier field = (field.name < length constants) × IsScalar (slice_get earlier field.typ)

-- a type whose parts are among the earlier ones
abbrev pub IsFlat : List (List ℕ) → List ImageType → ImageType → Type 0
IsFlat constants earlier (Set member) = IsMember (slice_get earlier member)
IsFlat constants earlier (ListOf member) = IsMember (slice_get earlier member)
IsFlat constants earlier (Array dynamic indexes cell) =
    All (λ typ. IsMember (slice_get earlier typ)) indexes × IsCell (slice_get earlier cell)
IsFlat constants earlier (Record fields) = All (IsField constants earlier) fields
IsFlat constants earlier Integer = Unit {0}
IsFlat constants earlier Boolean = Unit {0}
IsFlat constants earlier Str = Unit {0}
IsFlat constants earlier Model = Unit {0}
IsFlat constants earlier Event = Unit {0}
IsFlat constants earlier Range = Unit {0}

-- the default is a value of the type of the slot, a text of at most 1,000,000 bytes
abbrev pub IsOfType : List (List ℕ) → Default → Option ImageType → Type 0
IsOfType constants (Number n) (Some Integer) = Unit {0}
IsOfType constants (Truth b) (Some Boolean) = Unit {0}
IsOfType constants (Constant k) (Some Str) = IfSome (slice_get constants k) (λ text. length text ≤ 1000000)
IsOfType constants default typ = ⊥

-- the type of a number that was found
abbrev pub numbered_type : List ImageType → Option ℕ → Option ImageType
numbered_type types None = None
numbered_type types (Some typ) = slice_get types typ

-- the type of a global slot
abbrev pub type_of_global : Image → ℕ → Option ImageType
type_of_global image slot = numbered_type image.types (slice_get image.globals slot)

-- no two of these are the same
abbrev pub AreDistinct : {A : Type 0} → List A → Type 0
AreDistinct all = (i j : ℕ) → i < j → j < length all → slice_get all i ≢ slice_get all j

-- types, and the parameters with their types
pub record HasTypes (image : Image) : Type 0 where
  pub flat : (k : ℕ) (typ : ImageType) → slice_get image.types k ≡ Some typ
      → IsFlat image.constants (take k image.types) typ
  pub defaults : All (λ (p : Parameter). IsOfType image.constants p.default (type_of_global image p.slot)) image.params
  pub names : AreDistinct (map (λ (p : Parameter). slice_get image.constants p.name) image.params)
  pub slots : AreDistinct (map (λ (p : Parameter). p.slot) image.params)

-- Addresses are those of instructions.

-- an instruction begins there
abbrev pub IsBegun : List Instruction → ℕ → Type 0
IsBegun code address = (i : Instruction) × (instruction_at code address ≡ Some i)

-- how many routines begin at this address or before it: two addresses of one part have one number
abbrev pub part_of : List Routine → ℕ → ℕ
part_of routines address = length (filter (λ (r : Routine). nat_le r.address address) routines)

-- each one is less than the next
abbrev pub Ascend : List ℕ → Type 0
Ascend all = (i j n m : ℕ) → i < j → slice_get all i ≡ Some n → slice_get all j ≡ Some m → n < m

-- an instruction names the address of an instruction of its own part
abbrev pub NamesInPart : Image → ℕ → Instruction → Type 0
NamesInPart image at i =
    IfSome (named_address i) (λ address. IsBegun image.code address × (part_of image.routines address ≡ part_of image.routines at))

-- those of routines and points, and the operands
pub record HasAddresses (image : Image) : Type 0 where
  pub routines_ascend : Ascend (map (λ (r : Routine). r.address) image.routines)
  pub points_ascend : Ascend (map (λ (p : Point). p.address) image.points)
  pub routines : All (λ (r : Routine). IsBegun image.code r.address) image.routines
  pub points : All (λ (p : Point). IsBegun image.code p.address) image.points
  pub operands : (at : ℕ) (i : Instruction) → instruction_at image.code at ≡ Some i → NamesInPart image at i

-- Each part ends by leaving it.

-- the machine does not go on behind it
abbrev pub leaves_part : Instruction → Bool
leaves_part (Jump address) = true
leaves_part End = true
leaves_part (Fault kind) = true
leaves_part (JumpIf address) = false
leaves_part (JumpNot address) = false
leaves_part Tick = false
leaves_part (PushInt n) = false
leaves_part (PushBool n) = false
leaves_part (PushText constant) = false
leaves_part (LoadGlobal slot) = false
leaves_part (StoreGlobal slot) = false
leaves_part Swap = false
leaves_part Add = false
leaves_part Subtract = false
leaves_part (Compare comparison) = false
leaves_part Show = false
leaves_part Write = false
leaves_part Line = false

-- an instruction leaves its part, or another one of the same part stands behind it
abbrev pub GoesOn : Image → ℕ → Instruction → Type 0
GoesOn image at i =
    leaves_part i ≡ false → IsBegun image.code (at + width i) × (part_of image.routines (at + width i) ≡ part_of image.routines at)

-- no routine begins where the main part does, and no part ends but by leaving it
pub record HasEnds (image : Image) : Type 0 where
  pub main : IsBegun image.code 0
  pub main_is_first : part_of image.routines 0 ≡ 0
  pub behind : (at : ℕ) (i : Instruction) → instruction_at image.code at ≡ Some i → GoesOn image at i

-- Loops take ticks.

-- there is an instruction, and one that names an address which does not lie behind it names a tick
pub record KeepsTicks (image : Image) : Type 0 where
  pub some : 1 ≤ length image.code
  pub back : (at : ℕ) (i : Instruction) (address : ℕ) → instruction_at image.code at ≡ Some i → named_address i ≡ Some address
      → address ≤ at → instruction_at image.code address ≡ Some Tick

-- all these rules
pub record KeepsRules (image : Image) : Type 0 where
  pub numbers : HasNumbers image
  pub types : HasTypes image
  pub addresses : HasAddresses image
  pub ends : HasEnds image
  pub ticks : KeepsTicks image
