-- As the code goes about it: the beginning of a run as the program has it.

use Rattle.std.specs.Prelude.{ℕ, List, Option, map, slice_get}
use Rattle.mos_text.specs.declared.scalar.Scalar.{Scalar}
use Rattle.bim_code.specs.declared.image.ImageType.{ImageType}
use Rattle.bim_code.specs.declared.image.Field.{Field}
use Rattle.bim_code.specs.declared.image.Parameter as table
use Rattle.run_state.specs.Parameters.{and_then}
use Rattle.bim_machine.specs.Starts.{Beginning, Refused, Broken, Begins, scalar_default}
use Rattle.mos_vm.specs.declared.start.Start.{Start}
use Rattle.mos_vm.specs.declared.start.Start.TheVariants as start

-- the same in the words of the definitions
abbrev pub beginning_by : Start → Beginning
beginning_by start.Refused = Refused
beginning_by start.Broken = Broken
beginning_by (start.Begins values) = Begins values

-- the default of the type of a field
abbrev pub field_default : List ImageType → Field → Option Scalar
field_default types field = and_then (slice_get types field.typ) scalar_default

-- the slots of parameters
abbrev pub slots_of : List table.Parameter → List ℕ
slots_of params = map (λ (p : table.Parameter). p.slot) params
