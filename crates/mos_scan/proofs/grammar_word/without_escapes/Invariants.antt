use Rattle.std.proofs.Common.{◌≡◌, ◌++◌, drop, false}
use Rattle.mos_scan.specs.Reading as spec
use Rattle.mos_scan.proofs.grammar_word.without_escapes.Given as goal

abbrev pub invariant-loop-byte : goal.invariant-loop-byte
invariant-loop-byte l = l.read.items ++ spec.without_escapes l.escaped (drop l.byte-index l.text) ≡ spec.without_escapes false l.text
