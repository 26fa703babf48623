-- the number behind the digits still to come is the whole
use Rattle.std.proofs.Common.{◌≡◌, ◌≤◌, drop}
use Rattle.mos_vm.specs.Givens.{number_behind}
use Rattle.mos_vm.proofs.written.digits.Given as goal

abbrev pub invariant-loop-byte : goal.invariant-loop-byte
invariant-loop-byte l = record {
  number : number_behind l.number (drop l.byte-index l.text) ≡ number_behind 0 l.text;
  small : l.number ≤ 2147483648;
}
