-- What the names of a checked tree stand for. Of one name there is one routine, constant, parameter or variable.

use Rattle.std.specs.Prelude.{List, [], ◌∷◌, Option, Some, None, if◌then◌else◌}
use Rattle.std.specs.Str.{bytes_eq}
use Rattle.mos_names.specs.NameLists.{Name}
use Rattle.mos_sorts.specs.declared.sort.Sort.{Sort}
use Rattle.mos_sorts.specs.declared.value.Value.{Value}
use Rattle.mos_checked.specs.declared.checked.CheckedRoutine.{CheckedRoutine}
use Rattle.mos_checked.specs.declared.checked.Constant.{Constant}
use Rattle.mos_checked.specs.declared.checked.Parameter.{Parameter}
use Rattle.mos_checked.specs.declared.checked.Variable.{Variable}

-- the routine of this name
abbrev pub routine_named : Name → List CheckedRoutine → Option CheckedRoutine
routine_named n [] = None
routine_named n (x ∷ xs) = if bytes_eq n x.name then Some x else routine_named n xs

-- the value of the constant of this name
abbrev pub constant_named : Name → List Constant → Option Value
constant_named n [] = None
constant_named n (x ∷ xs) = if bytes_eq n x.name then Some x.value else constant_named n xs

-- the value that the parameter of this name has where none is given
abbrev pub default_named : Name → List Parameter → Option Value
default_named n [] = None
default_named n (x ∷ xs) = if bytes_eq n x.name then Some x.default else default_named n xs

-- the type of the formal or variable of this name
abbrev pub sort_named : Name → List Variable → Option Sort
sort_named n [] = None
sort_named n (x ∷ xs) = if bytes_eq n x.name then Some x.sort else sort_named n xs
