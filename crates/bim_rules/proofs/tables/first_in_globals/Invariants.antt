-- what is found, with what breaks a rule in the rest, is the first of all
use Rattle.std.proofs.Common.{◌≡◌, drop}
use Rattle.bim_rules.specs.Breaches.{first_of}
use Rattle.bim_rules.specs.Tables.{global_breaches}
use Rattle.bim_rules.proofs.tables.first_in_globals.Given as goal

abbrev pub invariant-loop-typ : goal.invariant-loop-typ
invariant-loop-typ l = record { counted : l.number ≡ l.typ-index; first : first_of l.found (global_breaches l.image l.number (drop l.typ-index l.image.globals)) ≡ first_of l.initial.found (global_breaches l.image 0 l.image.globals) }
