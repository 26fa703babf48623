use Rattle.std.proofs.Common.{arith}
use Rattle.mos_scan.proofs.Numbers.{grows}
use Rattle.mos_scan.proofs.number.number.Goals as goal

pub returns-then-value-gt2147483647 : goal.returns-then-value-gt2147483647
returns-then-value-gt2147483647 c = omega (arith, grows c.loop-rest.value c.loop-rest.rest.now, c.loop-rest.invariant.value, c.if-value-gt2147483647.true)
