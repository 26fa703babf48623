-- no quote is among the bytes so far
use Rattle.std.proofs.Common.{◌≡◌, drop}
use Rattle.std.specs.List.{list_any}
use Rattle.run_state.specs.Parameters.{is_quote}
use Rattle.mos_vm.proofs.written.has_quote.Given as goal

abbrev pub invariant-loop-byte : goal.invariant-loop-byte
invariant-loop-byte l = list_any is_quote (drop l.byte-index l.text) ≡ list_any is_quote l.text
