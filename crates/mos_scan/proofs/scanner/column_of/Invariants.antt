use Rattle.std.proofs.Common.{◌≡◌, ◌≤◌, ◌+◌, drop}
use Rattle.mos_scan.specs.Cuts as spec
use Rattle.mos_scan.proofs.scanner.column_of.Given as goal

abbrev pub invariant-loop-byte : goal.invariant-loop-byte
invariant-loop-byte l = record { value : spec.column_from l.column (drop l.byte-index l.before) ≡ spec.column_from 1 l.before; small : l.column ≤ l.byte-index + 1 }
