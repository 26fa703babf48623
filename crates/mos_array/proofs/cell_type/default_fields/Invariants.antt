-- the defaults so far, with those of the types still to come, are all
use Rattle.std.proofs.Common.{◌≡◌, ◌++◌, drop, map}
use Rattle.mos_array.specs.Defaults.{default_scalar}
use Rattle.mos_array.proofs.cell_type.default_fields.Given as goal

abbrev pub invariant-loop-typ : goal.invariant-loop-typ
invariant-loop-typ l = l.fields ++ map default_scalar (drop l.typ-index l.types) ≡ map default_scalar l.types
