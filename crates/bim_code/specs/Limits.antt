-- What an image keeps: counts that fit the fields of its file, and the limits of the format.
use Rattle.std.specs.Prelude.{◌≢◌, ◌≤◌, ◌<◌, ◌^◌, Some, length, All}
use Rattle.bim_code.specs.declared.image.Image.{Image}
use Rattle.bim_code.specs.declared.image.ImageType.{ImageType}
use Rattle.bim_code.specs.declared.image.ImageType.TheVariants.{Integer, Boolean, Str, Model, Event, Range, Set, List, Array, Record}
use Rattle.bim_code.specs.declared.image.Routine.{Routine}
use Rattle.bim_code.specs.Code.{code_size}

-- an array's number of indexes stands in one byte, the number of a record's fields in two
abbrev pub TypeInRange : ImageType → Type 0
TypeInRange Integer = Unit {0}
TypeInRange Boolean = Unit {0}
TypeInRange Str = Unit {0}
TypeInRange Model = Unit {0}
TypeInRange Event = Unit {0}
TypeInRange Range = Unit {0}
TypeInRange (Set member) = Unit {0}
TypeInRange (List member) = Unit {0}
TypeInRange (Array dynamic indexes cell) = length indexes < 2 ^ 8
TypeInRange (Record fields) = length fields < 2 ^ 16

-- each count fits its field; such an image has bytes
pub record CountsInRange (image : Image) : Type 0 where
  pub constants : length image.constants < 2 ^ 32
  pub texts : All (λ text. length text < 2 ^ 32) image.constants
  pub types : length image.types < 2 ^ 16
  pub parts : All TypeInRange image.types
  pub params : length image.params < 2 ^ 16
  pub globals : length image.globals < 2 ^ 32
  pub routines : length image.routines < 2 ^ 16
  pub slots : All (λ routine. length routine.slots < 2 ^ 16) image.routines
  pub points : length image.points < 2 ^ 32
  pub stacks : All (λ point. length point.stack < 2 ^ 16) image.points
  pub code : code_size image.code < 2 ^ 32

-- an array has 1 to 8 indexes, and a record at most 65,535 fields
abbrev pub TypeWithin : ImageType → Type 0
TypeWithin Integer = Unit {0}
TypeWithin Boolean = Unit {0}
TypeWithin Str = Unit {0}
TypeWithin Model = Unit {0}
TypeWithin Event = Unit {0}
TypeWithin Range = Unit {0}
TypeWithin (Set member) = Unit {0}
TypeWithin (List member) = Unit {0}
TypeWithin (Array dynamic indexes cell) = (1 ≤ length indexes) × (length indexes ≤ 8)
TypeWithin (Record fields) = length fields < 2 ^ 16

-- a routine has at most 65,535 slots, and its result is not the number that says that there is none
pub record RoutineWithin (routine : Routine) : Type 0 where
  pub slots : length routine.slots < 2 ^ 16
  pub result : routine.result ≢ Some 65535

-- the limits of the format: up to 65,536 constants of up to 1,048,576 bytes, 65,535 types, parameters and routines,
-- 65,536 globals, points of at most 65,535 entries, 262,144 instructions
pub record WithinLimits (image : Image) : Type 0 where
  pub constants : length image.constants ≤ 65536
  pub texts : All (λ text. length text ≤ 1048576) image.constants
  pub types : length image.types < 2 ^ 16
  pub parts : All TypeWithin image.types
  pub params : length image.params < 2 ^ 16
  pub globals : length image.globals ≤ 65536
  pub routines : length image.routines < 2 ^ 16
  pub slots : All RoutineWithin image.routines
  pub points : length image.points < 2 ^ 32
  pub stacks : All (λ point. length point.stack < 2 ^ 16) image.points
  pub code : length image.code ≤ 262144
