-- what is found, with what breaks a rule in the rest, is the first of all
use Rattle.std.proofs.Common.{◌≡◌, drop}
use Rattle.bim_rules.specs.Breaches.{first_of}
use Rattle.bim_rules.specs.Types.{type_breaches}
use Rattle.bim_rules.proofs.types.first_in_types.Given as goal

abbrev pub invariant-loop-typ : goal.invariant-loop-typ
invariant-loop-typ l = record { counted : l.number ≡ l.typ-index; first : first_of l.found (type_breaches l.image l.number (drop l.typ-index l.types)) ≡ first_of l.initial.found (type_breaches l.image 0 l.types) }
