-- When each number of an image fits its field in the file, and that images which do have bytes of their own.
use Rattle.std.specs.Prelude.{◌≡◌, ◌<◌, ◌^◌, ℕ, ℤ, [], ◌∷◌, Option, Some, None, All, FitsSigned}
use Rattle.std.specs.Int.{w32}
use Rattle.std.specs.Option.{IfSome}
use Rattle.bim_code.specs.declared.image.Image.{Image}
use Rattle.bim_code.specs.declared.image.ImageType.{ImageType}
use Rattle.bim_code.specs.declared.image.ImageType.TheVariants.{Integer, Boolean, Str, Model, Event, Range, Set, List as ListOf, Array, Record}
use Rattle.bim_code.specs.declared.image.Field.{Field}
use Rattle.bim_code.specs.declared.image.Parameter.{Parameter}
use Rattle.bim_code.specs.declared.image.Default.{Default}
use Rattle.bim_code.specs.declared.image.Default.TheVariants.{Number, Truth, Constant}
use Rattle.bim_code.specs.declared.image.Routine.{Routine}
use Rattle.bim_code.specs.declared.image.Slot.{Slot}
use Rattle.bim_code.specs.declared.image.Point.{Point}
use Rattle.bim_code.specs.declared.image.Operand.{Operand}
use Rattle.bim_code.specs.declared.instruction.Instruction.{Instruction}
use Rattle.bim_code.specs.declared.instruction.Instruction.TheVariants.{PushInt, End}
use Rattle.bim_code.specs.Rows.{row_of}
use Rattle.bim_code.specs.Limits.{CountsInRange}
use Rattle.bim_code.specs.Rules.{KeepsRules}
use Rattle.bim_code.specs.Tables.{image_bytes}

-- the name of a field in 32 bits, its type in 16
abbrev pub FieldInRange : Field → Type 0
FieldInRange field = (field.name < 2 ^ 32) × (field.typ < 2 ^ 16)

-- the types that a type is made of, in 16 bits each
abbrev pub PartsInRange : ImageType → Type 0
PartsInRange Integer = Unit {0}
PartsInRange Boolean = Unit {0}
PartsInRange Str = Unit {0}
PartsInRange Model = Unit {0}
PartsInRange Event = Unit {0}
PartsInRange Range = Unit {0}
PartsInRange (Set member) = member < 2 ^ 16
PartsInRange (ListOf member) = member < 2 ^ 16
PartsInRange (Array dynamic indexes cell) = All (λ typ. typ < 2 ^ 16) indexes × (cell < 2 ^ 16)
PartsInRange (Record fields) = All FieldInRange fields

-- an integer or the number of a constant, in 32 bits
abbrev pub DefaultInRange : Default → Type 0
DefaultInRange (Number n) = FitsSigned w32 n
DefaultInRange (Truth b) = Unit {0}
DefaultInRange (Constant constant) = constant < 2 ^ 32

-- the name and the slot of a parameter in 32 bits, and its default
abbrev pub ParameterInRange : Parameter → Type 0
ParameterInRange parameter = (parameter.name < 2 ^ 32) × (parameter.slot < 2 ^ 32) × DefaultInRange parameter.default

-- the type of a slot in 16 bits
abbrev pub SlotInRange : Slot → Type 0
SlotInRange slot = slot.typ < 2 ^ 16

-- the address of a routine in 32 bits, its number of arguments and each type in 16; 65535 says that there is no result
pub record RoutineInRange (routine : Routine) : Type 0 where
  pub address : routine.address < 2 ^ 32
  pub arguments : routine.arguments < 2 ^ 16
  pub slots : All SlotInRange routine.slots
  pub result : IfSome routine.result (λ typ. typ < 65535)

-- the type of what stands on a stack in 16 bits
abbrev pub OperandInRange : Operand → Type 0
OperandInRange operand = operand.typ < 2 ^ 16

-- the address of a point in 32 bits, and what stands on the stack there
abbrev pub PointInRange : Point → Type 0
PointInRange point = (point.address < 2 ^ 32) × All OperandInRange point.stack

-- each operand of an instruction in 32 bits, and an integer among them in two's complement
abbrev pub InstructionInRange : Instruction → Type 0
InstructionInRange instruction =
    All (λ operand. operand < 2 ^ 32) (row_of instruction).operands × ((n : ℤ) → instruction ≡ PushInt n → FitsSigned w32 n)

-- each count and each number fits its field
pub record FitsFields (image : Image) : Type 0 where
  pub counts : CountsInRange image
  pub types : All PartsInRange image.types
  pub parameters : All ParameterInRange image.params
  pub globals : All (λ typ. typ < 2 ^ 16) image.globals
  pub routines : All RoutineInRange image.routines
  pub points : All PointInRange image.points
  pub code : All InstructionInRange image.code

-- two such images with the same bytes are the same
abbrev pub SameBytesSameImage : Type 0
SameBytesSameImage = (a b : Image) → FitsFields a → FitsFields b → image_bytes a ≡ image_bytes b → a ≡ b

-- images that keep the rules are such
abbrev pub RulesFitFields : Type 0
RulesFitFields = (image : Image) → CountsInRange image → KeepsRules image → FitsFields image

-- an image with one routine, which has this type for its result
abbrev pub image_with_result : Option ℕ → Image
image_with_result result = record {
  constants = [];
  types = [];
  params = [];
  globals = [];
  routines = record { address = 0; arguments = 0; slots = []; result = result } ∷ [];
  points = [];
  code = End ∷ [];
}

-- without a result, and with the type of number 65535 for its result, it has the same bytes
abbrev pub NoResultIsLastType : Type 0
NoResultIsLastType = image_bytes (image_with_result None) ≡ image_bytes (image_with_result (Some 65535))
