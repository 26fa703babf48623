-- what is found, with what breaks a rule in the rest, is the first of all
use Rattle.std.proofs.Common.{◌≡◌, ◌+◌, drop}
use Rattle.bim_rules.specs.Breaches.{first_of}
use Rattle.bim_code.specs.Code.{code_size}
use Rattle.bim_rules.specs.Code.{code_breaches}
use Rattle.bim_rules.proofs.code.first_in_code.Given as goal

abbrev pub invariant-loop-i : goal.invariant-loop-i
invariant-loop-i l = record { counted : l.at + code_size (drop l.i-index l.image.code) ≡ code_size l.image.code; first : first_of l.found (code_breaches l.image l.at (drop l.i-index l.image.code)) ≡ first_of l.initial.found (code_breaches l.image 0 l.image.code) }
