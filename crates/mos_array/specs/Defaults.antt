-- What a new cell holds, by its type.

use Rattle.std.specs.Prelude.{false, [], map, pos}
use Rattle.mos_text.specs.declared.scalar.Scalar.{Scalar}
use Rattle.mos_text.specs.declared.scalar.Scalar.TheVariants.{Int, Bool as Truth, Str, Model, Event}
use Rattle.mos_array.specs.declared.cell_type.ScalarType.{ScalarType}
use Rattle.mos_array.specs.declared.cell_type.ScalarType.TheVariants as s
use Rattle.mos_array.specs.declared.cell_type.CellType.{CellType}
use Rattle.mos_array.specs.declared.cell_type.CellType.TheVariants as c
use Rattle.mos_array.specs.declared.cells.CellValue.{CellValue}
use Rattle.mos_array.specs.declared.cells.CellValue.TheVariants.{One, Fields}

-- the default of a type without parts
abbrev pub default_scalar : ScalarType → Scalar
default_scalar s.Integer = Int (pos 0)
default_scalar s.Boolean = Truth false
default_scalar s.Str = Str []
default_scalar s.Model = Model 0
default_scalar s.Event = Event (pos 0) (pos 0)

-- the default of a cell; a record has its fields' defaults
abbrev pub default_cell : CellType → CellValue
default_cell (c.One typ) = One (default_scalar typ)
default_cell (c.Fields types) = Fields (map default_scalar types)
