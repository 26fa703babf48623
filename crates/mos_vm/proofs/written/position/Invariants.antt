-- the byte is not among those so far
use Rattle.std.proofs.Common.{◌≡◌, ◌+◌, drop, nat_eq}
use Rattle.std.specs.List.{position_or_len}
use Rattle.mos_vm.proofs.written.position.Given as goal

abbrev pub invariant-loop-byte : goal.invariant-loop-byte
invariant-loop-byte l = record {
  place : l.place ≡ l.byte-index;
  rest : l.place + position_or_len (nat_eq l.wanted) (drop l.byte-index l.text) ≡ position_or_len (nat_eq l.wanted) l.text;
}
