-- what is found of the rest, behind what was found before, is found of all
use Rattle.std.proofs.Common.{◌≡◌, drop}
use Rattle.mos_declarations.specs.Parameters.{adding, parameters_found}
use Rattle.mos_declarations.proofs.defaults.parameters.Given as goal

abbrev pub invariant-loop-x : goal.invariant-loop-x
invariant-loop-x l =
    adding l.all (parameters_found (drop l.x-index l.written) l.scope) ≡ adding l.fn.all (parameters_found l.written l.fn.scope)
