-- The rules on the table of types: its numbers, and that types are made of earlier ones and flat.

use Rattle.std.specs.Prelude.{ℕ, ◌+◌, Bool, true, false, List, [], ◌∷◌, ◌++◌, Option, Some, length, take, nat_lt, slice_get, ◌&&◌}
use Rattle.std.specs.List.{list_all}
use Rattle.bim_code.specs.declared.image.Image.{Image}
use Rattle.bim_code.specs.declared.image.Field.{Field}
use Rattle.bim_code.specs.declared.image.ImageType.{ImageType}
use Rattle.bim_code.specs.declared.image.ImageType.TheVariants.{Integer, Boolean, Str, Model, Event, Range, Set, List as ListOf, Array, Record}
use Rattle.bim_rules.specs.declared.breach.Breach.{Breach}
use Rattle.bim_rules.specs.declared.breach.Rule.TheVariants.{Numbers, Types}
use Rattle.bim_rules.specs.declared.breach.Table.TheVariants as table
use Rattle.bim_rules.specs.Breaches.{mark}

-- a number of the table of types
abbrev pub is_type : Image → ℕ → Bool
is_type image typ = nat_lt typ (length image.types)

-- a number of the table of constants
abbrev pub is_constant : Image → ℕ → Bool
is_constant image constant = nat_lt constant (length image.constants)

-- the name and the type of a field
abbrev pub has_field : Image → Field → Bool
has_field image field = is_constant image field.name && is_type image field.typ

-- the parts of a type, and the names of its fields
abbrev pub has_parts : Image → ImageType → Bool
has_parts image (Set member) = is_type image member
has_parts image (ListOf member) = is_type image member
has_parts image (Array dynamic indexes cell) = list_all (is_type image) indexes && is_type image cell
has_parts image (Record fields) = list_all (has_field image) fields
has_parts image Integer = true
has_parts image Boolean = true
has_parts image Str = true
has_parts image Model = true
has_parts image Event = true
has_parts image Range = true

-- what can be a member of a set or list, and an index of an array
abbrev pub is_member : Option ImageType → Bool
is_member (Some Integer) = true
is_member (Some Boolean) = true
is_member (Some Str) = true
is_member _ = false

-- a type without parts
abbrev pub is_scalar : Option ImageType → Bool
is_scalar (Some Model) = true
is_scalar (Some Event) = true
is_scalar typ = is_member typ

-- what can be in a cell of an array
abbrev pub is_cell : Option ImageType → Bool
is_cell (Some (Record fields)) = true
is_cell typ = is_scalar typ

-- an index of this type, one of the earlier ones
abbrev pub is_index : List ImageType → ℕ → Bool
is_index before typ = is_member (slice_get before typ)

-- a field of one of the earlier types
abbrev pub is_field : List ImageType → Field → Bool
is_field before field = is_scalar (slice_get before field.typ)

-- a type whose parts are among the earlier ones
abbrev pub is_flat : List ImageType → ImageType → Bool
is_flat before (Set member) = is_member (slice_get before member)
is_flat before (ListOf member) = is_member (slice_get before member)
is_flat before (Array dynamic indexes cell) = list_all (is_index before) indexes && is_cell (slice_get before cell)
is_flat before (Record fields) = list_all (is_field before) fields
is_flat before Integer = true
is_flat before Boolean = true
is_flat before Str = true
is_flat before Model = true
is_flat before Event = true
is_flat before Range = true

-- the breaches by types, of which the first has this number
abbrev pub type_breaches : Image → ℕ → List ImageType → List Breach
type_breaches image k [] = []
type_breaches image k (typ ∷ types) =
    mark Numbers table.Types k (has_parts image typ)
    ++ (mark Types table.Types k (is_flat (take k image.types) typ)
    ++ type_breaches image (k + 1) types)
