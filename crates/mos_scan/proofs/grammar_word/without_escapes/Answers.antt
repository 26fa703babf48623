use Rattle.std.proofs.Common.{length, false, arith, ap, List, ℕ, drop, length-append}
use Rattle.mos_scan.specs.Reading.{without_escapes}
use Rattle.mos_scan.proofs.Short.{escapes_short}
use Rattle.mos_scan.proofs.grammar_word.without_escapes.Goals as goal

pub returns-clause-short : goal.returns-clause-short
returns-clause-short c =
    omega (
      arith,
      ap (λ (bs : List ℕ). length bs) c.loop-byte.invariant,
      length-append c.loop-byte.read.items (without_escapes c.loop-byte.escaped (drop c.loop-byte.byte-index c.args.text.now)),
      escapes_short false c.args.text.now,
    )
