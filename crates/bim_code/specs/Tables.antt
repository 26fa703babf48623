-- The bytes of an image: a heading, then seven parts. Numbers have their highest byte first.
use Rattle.std.specs.Prelude.{ℕ, List, [], ◌∷◌, ◌++◌, Option, Some, None, length, flat_map, codes, Bool}
use Rattle.std.specs.Int.{from_bool}
use Rattle.bim_code.specs.declared.image.Image.{Image}
use Rattle.bim_code.specs.declared.image.ImageType.{ImageType}
use Rattle.bim_code.specs.declared.image.ImageType.TheVariants.{Integer, Boolean, Str, Model, Event, Range, Set, List as ListOf, Array, Record}
use Rattle.bim_code.specs.declared.image.Field.{Field}
use Rattle.bim_code.specs.declared.image.Parameter.{Parameter}
use Rattle.bim_code.specs.declared.image.Default.{Default}
use Rattle.bim_code.specs.declared.image.Default.TheVariants.{Number, Truth, Constant}
use Rattle.bim_code.specs.declared.image.Routine.{Routine}
use Rattle.bim_code.specs.declared.image.Slot.{Slot}
use Rattle.bim_code.specs.declared.image.Point.{Point}
use Rattle.bim_code.specs.declared.image.Operand.{Operand}
use Rattle.bim_code.specs.declared.image.Form.{Form}
use Rattle.bim_code.specs.declared.image.Form.TheVariants.{Value, Place, Walk}
use Rattle.bim_code.specs.Bytes.{u16_bytes, u32_bytes, i32_bytes, short_table, long_table}
use Rattle.bim_code.specs.Code.{code_bytes}

-- a constant: its length, then its UTF-8 bytes
unfoldable pub constant_bytes : List ℕ → List ℕ
constant_bytes text = u32_bytes (length text) ++ text

-- a field: the constant that is its name, and its type
unfoldable pub field_bytes : Field → List ℕ
field_bytes field = u32_bytes field.name ++ u16_bytes field.typ

-- an array: whether it is dynamic, the number of its indexes in one byte, the type of each, the type of its cells
unfoldable pub array_bytes : Bool → List ℕ → ℕ → List ℕ
array_bytes dynamic indexes cell = from_bool dynamic ∷ length indexes ∷ flat_map u16_bytes indexes ++ u16_bytes cell

-- a type: its tag, then its parts
unfoldable pub type_bytes : ImageType → List ℕ
type_bytes Integer = 1 ∷ []
type_bytes Boolean = 2 ∷ []
type_bytes Str = 3 ∷ []
type_bytes Model = 4 ∷ []
type_bytes Event = 5 ∷ []
type_bytes Range = 6 ∷ []
type_bytes (Set member) = 7 ∷ u16_bytes member
type_bytes (ListOf member) = 8 ∷ u16_bytes member
type_bytes (Array dynamic indexes cell) = 9 ∷ array_bytes dynamic indexes cell
type_bytes (Record fields) = 10 ∷ short_table field_bytes fields

-- a default: its tag, then the integer, the boolean or the constant
unfoldable pub default_bytes : Default → List ℕ
default_bytes (Number n) = 1 ∷ i32_bytes n
default_bytes (Truth b) = 2 ∷ from_bool b ∷ []
default_bytes (Constant constant) = 3 ∷ u32_bytes constant

-- a parameter: the constant that is its name, its slot, its default
unfoldable pub parameter_bytes : Parameter → List ℕ
parameter_bytes parameter = u32_bytes parameter.name ++ u32_bytes parameter.slot ++ default_bytes parameter.default

-- a slot of a routine: its type, and whether it is an argument by reference
unfoldable pub slot_bytes : Slot → List ℕ
slot_bytes slot = u16_bytes slot.typ ++ from_bool slot.by_reference ∷ []

-- the type of a result, or 65535 for none
abbrev pub result_number : Option ℕ → ℕ
result_number None = 65535
result_number (Some typ) = typ

-- a routine: its address, how many of its slots are arguments, its slots, its result
unfoldable pub routine_bytes : Routine → List ℕ
routine_bytes routine = u32_bytes routine.address ++ u16_bytes routine.arguments ++ short_table slot_bytes routine.slots ++ u16_bytes (result_number routine.result)

-- what stands on the stack: a value, a place or a walk
abbrev pub form_number : Form → ℕ
form_number Value = 0
form_number Place = 1
form_number Walk = 2

-- an entry of a stack: its type and its form
unfoldable pub operand_bytes : Operand → List ℕ
operand_bytes operand = u16_bytes operand.typ ++ form_number operand.form ∷ []

-- a point: its address, then the stack there
unfoldable pub point_bytes : Point → List ℕ
point_bytes point = u32_bytes point.address ++ short_table operand_bytes point.stack

-- what stands before the parts: the letters MBIM and the version
unfoldable pub heading_bytes : List ℕ
heading_bytes = codes "MBIM" ++ u16_bytes 1

-- an image: the heading, then constants, types, parameters, globals, routines, points, code
unfoldable pub image_bytes : Image → List ℕ
image_bytes image =
    heading_bytes
    ++ long_table constant_bytes image.constants
    ++ short_table type_bytes image.types
    ++ short_table parameter_bytes image.params
    ++ long_table u16_bytes image.globals
    ++ short_table routine_bytes image.routines
    ++ long_table point_bytes image.points
    ++ code_bytes image.code
