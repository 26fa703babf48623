-- what is found, with what breaks a rule in the rest, is the first of all
use Rattle.std.proofs.Common.{◌≡◌, drop, []}
use Rattle.bim_rules.specs.Breaches.{first_of}
use Rattle.bim_rules.specs.Tables.{parameter_breaches}
use Rattle.bim_rules.proofs.tables.first_in_parameters.Given as goal

abbrev pub invariant-loop-p : goal.invariant-loop-p
invariant-loop-p l = record { counted : l.number ≡ l.p-index; first : first_of l.found (parameter_breaches l.image l.number l.names l.slots.keys (drop l.p-index l.image.params)) ≡ first_of l.initial.found (parameter_breaches l.image 0 [] [] l.image.params) }
