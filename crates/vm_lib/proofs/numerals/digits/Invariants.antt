-- the number behind the digits still to come is the whole
use Rattle.std.proofs.Common.{◌≡◌, ◌≤◌, drop}
use Rattle.vm_lib.specs.Growing.{number_behind}
use Rattle.vm_lib.proofs.numerals.digits.Given as goal

abbrev pub invariant-loop-byte : goal.invariant-loop-byte
invariant-loop-byte l = record {
  number : number_behind l.number (drop l.byte-index l.text) ≡ number_behind 0 l.text;
  small : l.number ≤ 2147483648;
}
