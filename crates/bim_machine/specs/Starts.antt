-- How the machine of an image begins: the default of its type in each global slot, and the parameters
-- in their slots.

use Rattle.std.specs.Prelude.{ℕ, pos, false, List, [], ◌∷◌, Option, Some, None, map, slice_get, option_map}
use Rattle.mos_text.specs.declared.scalar.Scalar.{Scalar}
use Rattle.mos_text.specs.declared.scalar.Scalar.TheVariants as scalar
use Rattle.bim_code.specs.declared.image.Image.{Image}
use Rattle.bim_code.specs.declared.image.ImageType.{ImageType}
use Rattle.bim_code.specs.declared.image.ImageType.TheVariants.{Integer, Boolean, Str, Model, Event, Range, Set, List as ListOf, Array, Record}
use Rattle.bim_code.specs.declared.image.Field.{Field}
use Rattle.bim_code.specs.declared.image.Parameter as table
use Rattle.bim_code.specs.declared.image.Default.{Default}
use Rattle.bim_code.specs.declared.image.Default.TheVariants.{Number, Truth, Constant}
use Rattle.mos_value.specs.Values.{Value, One}
use Rattle.mos_value.specs.Values as value
use Rattle.mos_value.specs.declared.member.MemberType.{MemberType}
use Rattle.mos_value.specs.declared.member.MemberType.TheVariants as member
use Rattle.run_state.specs.Parameters.{Parameter, and_then, given_values, with_values}

-- Defaults.

-- of a type without parts
abbrev pub scalar_default : ImageType → Option Scalar
scalar_default Integer = Some (scalar.Int (pos 0))
scalar_default Boolean = Some (scalar.Bool false)
scalar_default Str = Some (scalar.Str [])
scalar_default Model = Some (scalar.Model 0)
scalar_default Event = Some (scalar.Event (pos 0) (pos 0))
scalar_default Range = None
scalar_default (Set member) = None
scalar_default (ListOf member) = None
scalar_default (Array dynamic indexes cell) = None
scalar_default (Record fields) = None

-- of each of these, where each has one
abbrev pub all_of : {A B : Type 0} → (A → Option B) → List A → Option (List B)
all_of f [] = Some []
all_of f (x ∷ xs) = and_then (f x) (λ y. option_map (λ ys. y ∷ ys) (all_of f xs))

-- what the members of a set or list of this type can be
abbrev pub member_type : ImageType → Option MemberType
member_type Integer = Some member.Integer
member_type Boolean = Some member.Boolean
member_type Str = Some member.Str
member_type Model = None
member_type Event = None
member_type Range = None
member_type (Set member) = None
member_type (ListOf member) = None
member_type (Array dynamic indexes cell) = None
member_type (Record fields) = None

-- where the type has this number
abbrev pub member_at : List ImageType → ℕ → Option MemberType
member_at types number = and_then (slice_get types number) member_type

-- the names of fields
abbrev pub field_names : List (List ℕ) → List Field → Option (List (List ℕ))
field_names constants fields = all_of (λ (field : Field). slice_get constants field.name) fields

-- the values with which they begin
abbrev pub field_defaults : List ImageType → List Field → Option (List Scalar)
field_defaults types fields = all_of (λ (field : Field). and_then (slice_get types field.typ) scalar_default) fields

-- of a type. That of an array joins with arrays: until then an image with an array among its slots has no
-- beginning, although it keeps the rules
abbrev pub type_default : List (List ℕ) → List ImageType → ImageType → Option Value
type_default constants types Range = Some (value.Range (pos 1) (pos 0))
type_default constants types (Set number) = option_map (λ member. value.SetOf member []) (member_at types number)
type_default constants types (ListOf number) = option_map (λ member. value.ListOf member []) (member_at types number)
type_default constants types (Array dynamic indexes cell) = None
type_default constants types (Record fields) =
    and_then (field_names constants fields) (λ names. option_map (value.Fields names) (field_defaults types fields))
type_default constants types Integer = option_map One (scalar_default Integer)
type_default constants types Boolean = option_map One (scalar_default Boolean)
type_default constants types Str = option_map One (scalar_default Str)
type_default constants types Model = option_map One (scalar_default Model)
type_default constants types Event = option_map One (scalar_default Event)

-- of slots whose types have these numbers
abbrev pub defaults_in : List (List ℕ) → List ImageType → List ℕ → Option (List Value)
defaults_in constants types numbers = all_of (λ number. and_then (slice_get types number) (type_default constants types)) numbers

-- Parameters.

-- the value of a parameter where none is given
abbrev pub default_value : List (List ℕ) → Default → Option Scalar
default_value constants (Number n) = Some (scalar.Int n)
default_value constants (Truth b) = Some (scalar.Bool b)
default_value constants (Constant k) = option_map scalar.Str (slice_get constants k)

-- the name and the default of a parameter
abbrev pub parameter_in : List (List ℕ) → table.Parameter → Option Parameter
parameter_in constants p =
    and_then (slice_get constants p.name) (λ name. option_map (λ default. record { name = name; default = default }) (default_value constants p.default))

-- the parameters of an image
abbrev pub parameters_in : Image → Option (List Parameter)
parameters_in image = all_of (parameter_in image.constants) image.params

-- The beginning.

-- a parameter text may be refused; an image whose tables are wrong has no beginning
pub data Beginning : Type 0 where
  Refused : Beginning
  Broken : Beginning
  Begins : (values : List Value) → Beginning  -- in the global slots

-- values for all slots, or broken tables
abbrev pub or_broken : Option (List Value) → Beginning
or_broken None = Broken
or_broken (Some values) = Begins values

-- what the text gives goes over the defaults
abbrev pub with_given : Option (List Scalar) → Image → Option (List Value) → Beginning
with_given None image defaults = Refused
with_given (Some given) image defaults =
    or_broken (and_then defaults (with_values (map (λ (p : table.Parameter). p.slot) image.params) given))

-- the beginning, with the parameters that were found
abbrev pub by_parameters : Option (List Parameter) → Image → List ℕ → Beginning
by_parameters None image text = Broken
by_parameters (Some params) image text = with_given (given_values params text) image (defaults_in image.constants image.types image.globals)

-- the beginning of an image
abbrev pub beginning_of : Image → List ℕ → Beginning
beginning_of image text = by_parameters (parameters_in image) image text
