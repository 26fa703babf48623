-- The entries of an image's tables.

use Rattle.std.specs.Prelude.{ℕ, zero, suc, ℤ, Bool, List, [], ◌∷◌, Option, Some, None, Ok, slice_get, nat_le, nat_eq, ◌&&◌, if◌then◌else◌}
use Rattle.bim_code.specs.declared.image.ImageType.{ImageType}
use Rattle.bim_code.specs.declared.image.ImageType.TheVariants as typ
use Rattle.bim_code.specs.declared.image.Field.{Field}
use Rattle.bim_code.specs.declared.image.Parameter.{Parameter}
use Rattle.bim_code.specs.declared.image.Default.{Default}
use Rattle.bim_code.specs.declared.image.Default.TheVariants as default
use Rattle.bim_code.specs.declared.image.Routine.{Routine}
use Rattle.bim_code.specs.declared.image.Slot.{Slot}
use Rattle.bim_code.specs.declared.image.Point.{Point}
use Rattle.bim_code.specs.declared.image.Operand.{Operand}
use Rattle.bim_code.specs.declared.image.Form.{Form}
use Rattle.bim_code.specs.declared.image.Form.TheVariants.{Value, Place, Walk}
use Rattle.bim_read.specs.declared.fault.FaultKind.TheVariants.{Tag}
use Rattle.bim_read.specs.declared.entries.TypeTag.{TypeTag}
use Rattle.bim_read.specs.declared.entries.TypeTag.TheVariants as tag
use Rattle.bim_read.specs.declared.entries.DefaultTag.{DefaultTag}
use Rattle.bim_read.specs.declared.entries.DefaultTag.TheVariants as tagged
use Rattle.bim_read.specs.Reading.{Found, ◌>>=◌, made, both, chosen, checked, table}
use Rattle.bim_read.specs.Fields.{byte_at, half_at, word_at, integer_at, truth_at}

-- the tags of types, from 1 on
abbrev pub type_tags : List TypeTag
type_tags = tag.Integer ∷ tag.Boolean ∷ tag.Str ∷ tag.Model ∷ tag.Event ∷ tag.Range ∷ tag.Set ∷ tag.List ∷ tag.Array ∷ tag.Record ∷ []

-- the tag of this number
abbrev pub type_tag_of : ℕ → Option TypeTag
type_tag_of zero = None
type_tag_of (suc n) = slice_get type_tags n

-- a field: the constant that is its name, and its type
unfoldable pub field_at : List ℕ → Found Field
field_at bytes = made (λ p. record { name = p.0; typ = p.1 }) (both word_at half_at) bytes

-- the number of indexes, 1 to 8
abbrev pub rank_at : List ℕ → Found ℕ
rank_at bytes = checked (λ n. nat_le 1 n && nat_le n 8) Tag byte_at bytes

-- an array: whether it is dynamic, the type of each index, the type of its cells
unfoldable pub array_at : List ℕ → Found ImageType
array_at bytes = made (λ p. typ.Array p.0 p.1.0 p.1.1) (both truth_at (both (table rank_at half_at) half_at)) bytes

-- what stands behind the tag of a type
abbrev pub parts_at : TypeTag → List ℕ → Found ImageType
parts_at tag.Integer bytes = Ok (typ.Integer, bytes)
parts_at tag.Boolean bytes = Ok (typ.Boolean, bytes)
parts_at tag.Str bytes = Ok (typ.Str, bytes)
parts_at tag.Model bytes = Ok (typ.Model, bytes)
parts_at tag.Event bytes = Ok (typ.Event, bytes)
parts_at tag.Range bytes = Ok (typ.Range, bytes)
parts_at tag.Set bytes = made (λ (member : ℕ). typ.Set member) half_at bytes
parts_at tag.List bytes = made (λ (member : ℕ). typ.List member) half_at bytes
parts_at tag.Array bytes = array_at bytes
parts_at tag.Record bytes = made (λ (fields : List Field). typ.Record fields) (table half_at field_at) bytes

-- a type
unfoldable pub type_at : List ℕ → Found ImageType
type_at bytes = chosen type_tag_of Tag byte_at bytes >>= λ t. parts_at t.0 t.1

-- the tags of defaults, from 1 on
abbrev pub default_tags : List DefaultTag
default_tags = tagged.Number ∷ tagged.Truth ∷ tagged.Constant ∷ []

-- the tag of this number
abbrev pub default_tag_of : ℕ → Option DefaultTag
default_tag_of zero = None
default_tag_of (suc n) = slice_get default_tags n

-- what stands behind the tag of a default
abbrev pub default_of : DefaultTag → List ℕ → Found Default
default_of tagged.Number bytes = made (λ (n : ℤ). default.Number n) integer_at bytes
default_of tagged.Truth bytes = made (λ (b : Bool). default.Truth b) truth_at bytes
default_of tagged.Constant bytes = made (λ (constant : ℕ). default.Constant constant) word_at bytes

-- a default
unfoldable pub default_at : List ℕ → Found Default
default_at bytes = chosen default_tag_of Tag byte_at bytes >>= λ t. default_of t.0 t.1

-- a parameter: the constant that is its name, its slot, its default
unfoldable pub parameter_at : List ℕ → Found Parameter
parameter_at bytes = made (λ p. record { name = p.0; slot = p.1.0; default = p.1.1 }) (both word_at (both word_at default_at)) bytes

-- a slot of a routine: its type, and whether it is an argument by reference
unfoldable pub slot_at : List ℕ → Found Slot
slot_at bytes = made (λ p. record { typ = p.0; by_reference = p.1 }) (both half_at truth_at) bytes

-- 65535 says that there is no result
abbrev pub result_of : ℕ → Option ℕ
result_of n = if nat_eq n 65535 then None else Some n

-- a routine: its address, how many of its slots are arguments, its slots, its result
unfoldable pub routine_at : List ℕ → Found Routine
routine_at bytes =
    made (λ p. record { address = p.0; arguments = p.1.0; slots = p.1.1.0; result = result_of p.1.1.1 })
    (both word_at (both half_at (both (table half_at slot_at) half_at))) bytes

-- a value, a place, a walk
abbrev pub form_of : ℕ → Option Form
form_of n = slice_get (Value ∷ Place ∷ Walk ∷ []) n

-- a form
abbrev pub form_at : List ℕ → Found Form
form_at bytes = chosen form_of Tag byte_at bytes

-- an entry of a stack: its type and its form
unfoldable pub operand_at : List ℕ → Found Operand
operand_at bytes = made (λ p. record { typ = p.0; form = p.1 }) (both half_at form_at) bytes

-- a point: its address, then the stack there
unfoldable pub point_at : List ℕ → Found Point
point_at bytes = made (λ p. record { address = p.0; stack = p.1 }) (both word_at (table half_at operand_at)) bytes
