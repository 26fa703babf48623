-- more digits do not make the number less
use Rattle.std.proofs.Common.{◌+◌, ◌*◌, ◌-◌, arith}
use Rattle.vm_lib.proofs.DigitLemmas.{one_digit, too_large}
use Rattle.vm_lib.proofs.numerals.digit_behind.Goals as goal

pub returns-then-more-from-clause-digits : goal.returns-then-more-from-clause-digits
returns-then-more-from-clause-digits c = λ rest.
    one_digit c.args.number c.args.byte rest (too_large (10 * c.args.number + (c.args.byte - 48)) rest
    (omega (arith, c.if-more-from.true, c.from.ensures, c.from-2.ensures, c.from-3.ensures)))
