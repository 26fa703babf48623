-- All that breaks a rule on tables, addresses, parts or ticks.

use Rattle.std.specs.Prelude.{List, [], ◌++◌, None}
use Rattle.bim_code.specs.declared.image.Image.{Image}
use Rattle.bim_rules.specs.declared.breach.Breach.{Breach}
use Rattle.bim_rules.specs.declared.breach.Rule.TheVariants.{Ends}
use Rattle.bim_rules.specs.declared.breach.Table.TheVariants as table
use Rattle.bim_rules.specs.Breaches.{mark}
use Rattle.bim_rules.specs.Types.{type_breaches}
use Rattle.bim_rules.specs.Tables.{parameter_breaches, global_breaches, routine_breaches, point_breaches}
use Rattle.bim_rules.specs.Code.{code_breaches, has_main}

-- by types, parameters and globals
abbrev pub variable_breaches : Image → List Breach
variable_breaches image =
    type_breaches image 0 image.types
    ++ (parameter_breaches image 0 [] [] image.params
    ++ global_breaches image 0 image.globals)

-- by routines, points and code
abbrev pub part_breaches : Image → List Breach
part_breaches image =
    routine_breaches image 0 None image.routines
    ++ (point_breaches image 0 None image.points
    ++ (mark Ends table.Code 0 (has_main image)
    ++ code_breaches image 0 image.code))

-- all of them
abbrev pub plain_breaches : Image → List Breach
plain_breaches image = variable_breaches image ++ part_breaches image
