use Rattle.std.proofs.Common.{length}
use Rattle.mos_scan.proofs.Scans.{Scanned}
use Rattle.mos_scan.proofs.scanner.cut_all.Given as goal

abbrev pub invariant-loop-rest : goal.invariant-loop-rest
invariant-loop-rest l = Scanned l.bytes l.rest l.at l.line l.tokens.items

abbrev pub decreases-loop-rest : goal.decreases-loop-rest
decreases-loop-rest l = length l.rest
