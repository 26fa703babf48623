-- what is found, with what breaks a rule in the rest, is the first of all
use Rattle.std.proofs.Common.{◌≡◌, ◌+◌, drop}
use Rattle.bim_code.specs.Code.{code_size}
use Rattle.bim_rules.specs.Breaches.{first_of}
use Rattle.bim_verify.specs.Stacks.{Nothing, known_of, stack_breaches}
use Rattle.bim_verify.proofs.stacks.first_in_stacks.Given as goal

abbrev pub invariant-loop-i : goal.invariant-loop-i
invariant-loop-i l = record {
  counted : l.at + code_size (drop l.i-index l.image.code) ≡ code_size l.image.code;
  first : first_of l.found (stack_breaches l.image l.at (known_of l.left l.stack) (drop l.i-index l.image.code)) ≡ first_of l.initial.found (stack_breaches l.image 0 Nothing l.image.code);
}
