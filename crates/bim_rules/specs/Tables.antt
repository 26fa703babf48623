-- The rules on parameters, globals, routines and points.

use Rattle.std.specs.Prelude.{ℕ, ◌+◌, Bool, true, false, List, [], ◌∷◌, ◌++◌, Option, Some, None, length, nat_lt, nat_le, nat_eq, not, slice_get, ◌&&◌}
use Rattle.std.specs.List.{list_all, list_any}
use Rattle.indexmap.specs.IndexSet.{insert_key}
use Rattle.mos_names.specs.NameLists.{Name, has_name, with_name}
use Rattle.bim_code.specs.declared.image.Image.{Image}
use Rattle.bim_code.specs.declared.image.ImageType.{ImageType}
use Rattle.bim_code.specs.declared.image.ImageType.TheVariants.{Integer, Boolean, Str}
use Rattle.bim_code.specs.declared.image.Parameter.{Parameter}
use Rattle.bim_code.specs.declared.image.Default.{Default}
use Rattle.bim_code.specs.declared.image.Default.TheVariants.{Number, Truth, Constant}
use Rattle.bim_code.specs.declared.image.Routine.{Routine}
use Rattle.bim_code.specs.declared.image.Slot.{Slot}
use Rattle.bim_code.specs.declared.image.Point.{Point}
use Rattle.bim_code.specs.declared.image.Operand.{Operand}
use Rattle.bim_code.specs.Rules.{type_of_global}
use Rattle.bim_rules.specs.declared.breach.Breach.{Breach}
use Rattle.bim_rules.specs.declared.breach.Rule.TheVariants.{Numbers, Types, Addresses}
use Rattle.bim_rules.specs.declared.breach.Table.TheVariants as table
use Rattle.bim_rules.specs.Breaches.{mark}
use Rattle.bim_rules.specs.Parts.{is_begun, is_above}
use Rattle.bim_rules.specs.Types.{is_type, is_constant}

-- a number of a global slot
abbrev pub is_global : Image → ℕ → Bool
is_global image slot = nat_lt slot (length image.globals)

-- the default of a parameter
abbrev pub has_default : Image → Default → Bool
has_default image (Number n) = true
has_default image (Truth b) = true
has_default image (Constant constant) = is_constant image constant

-- the name, the slot and the default of a parameter
abbrev pub has_parameter : Image → Parameter → Bool
has_parameter image p = is_constant image p.name && (is_global image p.slot && has_default image p.default)

-- a text of at most 1,000,000 bytes
abbrev pub is_short : Option Name → Bool
is_short None = false
is_short (Some text) = nat_le (length text) 1000000

-- a value of the type
abbrev pub is_of_type : List Name → Default → Option ImageType → Bool
is_of_type constants (Number n) (Some Integer) = true
is_of_type constants (Truth b) (Some Boolean) = true
is_of_type constants (Constant constant) (Some Str) = is_short (slice_get constants constant)
is_of_type constants default typ = false

-- no parameter before has this name
abbrev pub is_new_name : List Name → Option Name → Bool
is_new_name names None = true
is_new_name names (Some name) = not (has_name name names)

-- the names so far, with one more
abbrev pub with_found : List Name → Option Name → List Name
with_found names None = names
with_found names (Some name) = with_name names name

-- the slots so far, with one more
abbrev pub with_slot : List ℕ → ℕ → List ℕ
with_slot slots slot = insert_key nat_eq slots slot

-- a parameter behind others that have these names and slots
abbrev pub is_parameter : Image → List Name → List ℕ → Parameter → Bool
is_parameter image names slots p =
    is_of_type image.constants p.default (type_of_global image p.slot)
    && (is_new_name names (slice_get image.constants p.name) && not (list_any (nat_eq p.slot) slots))

-- the breaches by parameters, of which the first has this number; those before have these names and slots
abbrev pub parameter_breaches : Image → ℕ → List Name → List ℕ → List Parameter → List Breach
parameter_breaches image k names slots [] = []
parameter_breaches image k names slots (p ∷ params) =
    mark Numbers table.Parameters k (has_parameter image p)
    ++ (mark Types table.Parameters k (is_parameter image names slots p)
    ++ parameter_breaches image (k + 1) (with_found names (slice_get image.constants p.name)) (with_slot slots p.slot) params)

-- the breaches by globals, of which the first has this number
abbrev pub global_breaches : Image → ℕ → List ℕ → List Breach
global_breaches image k [] = []
global_breaches image k (typ ∷ globals) = mark Numbers table.Globals k (is_type image typ) ++ global_breaches image (k + 1) globals

-- the type of a slot
abbrev pub has_slot : Image → Slot → Bool
has_slot image slot = is_type image slot.typ

-- the type of a result
abbrev pub has_result : Image → Option ℕ → Bool
has_result image None = true
has_result image (Some typ) = is_type image typ

-- the types in a routine, which has at most as many arguments as slots
abbrev pub has_routine : Image → Routine → Bool
has_routine image routine =
    list_all (has_slot image) routine.slots
    && (has_result image routine.result && nat_le routine.arguments (length routine.slots))

-- an instruction begins there, above the address before
abbrev pub is_place : Image → Option ℕ → ℕ → Bool
is_place image before address = is_begun image address && is_above before address

-- the breaches by routines, of which the first has this number and stands behind one of this address
abbrev pub routine_breaches : Image → ℕ → Option ℕ → List Routine → List Breach
routine_breaches image k before [] = []
routine_breaches image k before (routine ∷ routines) =
    mark Numbers table.Routines k (has_routine image routine)
    ++ (mark Addresses table.Code routine.address (is_place image before routine.address)
    ++ routine_breaches image (k + 1) (Some routine.address) routines)

-- the type of an entry of a stack
abbrev pub has_operand : Image → Operand → Bool
has_operand image operand = is_type image operand.typ

-- the breaches by points, likewise
abbrev pub point_breaches : Image → ℕ → Option ℕ → List Point → List Breach
point_breaches image k before [] = []
point_breaches image k before (point ∷ points) =
    mark Numbers table.Points k (list_all (has_operand image) point.stack)
    ++ (mark Addresses table.Code point.address (is_place image before point.address)
    ++ point_breaches image (k + 1) (Some point.address) points)
