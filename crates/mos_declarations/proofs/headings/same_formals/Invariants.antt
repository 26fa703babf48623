-- what is left of the one is the same as what is left of the other, where all of it is
use Rattle.std.proofs.Common.{◌≡◌, drop}
use Rattle.mos_declarations.specs.Headings.{same_formals}
use Rattle.mos_declarations.proofs.headings.same_formals.Given as goal

abbrev pub invariant-loop-formal : goal.invariant-loop-formal
invariant-loop-formal l = same_formals (drop l.formal-index l.found) l.rest ≡ same_formals l.found l.announced
