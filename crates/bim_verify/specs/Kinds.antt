-- What is known of an entry of the stack: a value of a type, a place that holds one, or a walk. Types are
-- compared by their parts.

use Rattle.std.specs.Prelude.{ℕ, Bool, true, false, List, [], ◌∷◌, Option, Some, nat_eq, slice_get, ◌&&◌, ◌||◌}
use Rattle.std.specs.Str.{bytes_eq}
use Rattle.bim_code.specs.declared.image.Image.{Image}
use Rattle.bim_code.specs.declared.image.Field.{Field}
use Rattle.bim_code.specs.declared.image.Form.{Form}
use Rattle.bim_code.specs.declared.image.Form.TheVariants.{Value, Place, Walk}
use Rattle.bim_code.specs.declared.image.Operand.{Operand}
use Rattle.bim_code.specs.declared.image.ImageType.{ImageType}
use Rattle.bim_code.specs.declared.image.ImageType.TheVariants as typ
use Rattle.bim_verify.specs.declared.kinds.Kind.{Kind}
use Rattle.bim_verify.specs.declared.kinds.Sort.{Sort}
use Rattle.bim_verify.specs.declared.kinds.Sort.TheVariants.{Integer, Boolean, Str, Other}

-- the sort of the type of this number
abbrev pub sort_by : ℕ → Option ImageType → Sort
sort_by number (Some typ.Integer) = Integer
sort_by number (Some typ.Boolean) = Boolean
sort_by number (Some typ.Str) = Str
sort_by number found = Other number

-- as the table of types has it
abbrev pub sort_of : Image → ℕ → Sort
sort_of image number = sort_by number (slice_get image.types number)

-- a value of a sort
abbrev pub value : Sort → Kind
value sort = record { sort = sort; form = Value }

-- what a point says of an entry
abbrev pub kind_of : Image → Operand → Kind
kind_of image operand = record { sort = sort_of image operand.typ; form = operand.form }

-- Types are compared by their parts.

-- of two types without parts
abbrev pub same_scalar : Option ImageType → Option ImageType → Bool
same_scalar (Some typ.Integer) (Some typ.Integer) = true
same_scalar (Some typ.Boolean) (Some typ.Boolean) = true
same_scalar (Some typ.Str) (Some typ.Str) = true
same_scalar (Some typ.Model) (Some typ.Model) = true
same_scalar (Some typ.Event) (Some typ.Event) = true
same_scalar a b = false

-- of two texts that are there
abbrev pub same_text : Option (List ℕ) → Option (List ℕ) → Bool
same_text (Some a) (Some b) = bytes_eq a b
same_text a b = false

-- of two constants
abbrev pub same_name : Image → ℕ → ℕ → Bool
same_name image a b = same_text (slice_get image.constants a) (slice_get image.constants b)

-- of two numbers of types without parts
abbrev pub same_index : Image → ℕ → ℕ → Bool
same_index image a b = same_scalar (slice_get image.types a) (slice_get image.types b)

-- of two fields: names and types
abbrev pub same_field : Image → Field → Field → Bool
same_field image a b = same_name image a.name b.name && same_index image a.typ b.typ

-- of two lists, entry by entry
abbrev pub same_all : {A B : Type 0} → (A → B → Bool) → List A → List B → Bool
same_all same [] [] = true
same_all same (a ∷ more) (b ∷ others) = same a b && same_all same more others
same_all same more others = false

-- of two types of cells
abbrev pub same_cell : Image → Option ImageType → Option ImageType → Bool
same_cell image (Some (typ.Record fields)) (Some (typ.Record others)) = same_all (same_field image) fields others
same_cell image a b = same_scalar a b

-- of two arrays, but for whether they are dynamic
abbrev pub same_array : Image → List ℕ → ℕ → List ℕ → ℕ → Bool
same_array image indexes cell others another =
    same_all (same_index image) indexes others && same_cell image (slice_get image.types cell) (slice_get image.types another)

-- of two truths
abbrev pub same_truth : Bool → Bool → Bool
same_truth true true = true
same_truth false false = true
same_truth a b = false

-- of any two types that are there
abbrev pub same_type : Image → Option ImageType → Option ImageType → Bool
same_type image (Some typ.Range) (Some typ.Range) = true
same_type image (Some (typ.Set a)) (Some (typ.Set b)) = same_index image a b
same_type image (Some (typ.List a)) (Some (typ.List b)) = same_index image a b
same_type image (Some (typ.Array dynamic indexes cell)) (Some (typ.Array other others another)) =
    same_truth dynamic other && same_array image indexes cell others another
same_type image a b = same_cell image a b

-- of two sorts
abbrev pub same_sort : Image → Sort → Sort → Bool
same_sort image Integer Integer = true
same_sort image Boolean Boolean = true
same_sort image Str Str = true
same_sort image (Other a) (Other b) = nat_eq a b || same_type image (slice_get image.types a) (slice_get image.types b)
same_sort image a b = false

-- of two forms
abbrev pub same_form : Form → Form → Bool
same_form Value Value = true
same_form Place Place = true
same_form Walk Walk = true
same_form a b = false

-- of two kinds
abbrev pub same_kind : Image → Kind → Kind → Bool
same_kind image a b = same_form a.form b.form && same_sort image a.sort b.sort

-- a stack is the same as another
abbrev pub same_stack : Image → List Kind → List Kind → Bool
same_stack image a b = same_all (same_kind image) a b

-- the type is no array
abbrev pub is_no_array_type : Option ImageType → Bool
is_no_array_type (Some (typ.Array dynamic indexes cell)) = false
is_no_array_type found = true

-- the sort is none
abbrev pub is_no_array : Image → Sort → Bool
is_no_array image (Other number) = is_no_array_type (slice_get image.types number)
is_no_array image sort = true

-- an integer
abbrev pub is_integer : Sort → Bool
is_integer Integer = true
is_integer sort = false

-- a truth
abbrev pub is_truth : Sort → Bool
is_truth Boolean = true
is_truth sort = false

-- a text
abbrev pub is_text : Sort → Bool
is_text Str = true
is_text sort = false
