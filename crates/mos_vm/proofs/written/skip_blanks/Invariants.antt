-- what was skipped does not count, and the text may be cut there
use Rattle.std.proofs.Common.{◌≡◌, drop}
use Rattle.std.specs.Str.{IsUtf8, IsCharBoundary}
use Rattle.run_state.specs.Parameters.{skip_blanks}
use Rattle.mos_vm.proofs.written.skip_blanks.Given as goal

abbrev pub invariant-loop-begin : goal.invariant-loop-begin
invariant-loop-begin l = record {
  value : skip_blanks (drop l.begin l.text) ≡ skip_blanks l.text;
  cut : IsUtf8 l.text → IsCharBoundary l.text l.begin;
}
