-- what was left off does not count
use Rattle.std.proofs.Common.{◌≡◌, length, reverse}
use Rattle.std.specs.Str.{IsUtf8}
use Rattle.run_state.specs.Parameters.{skip_blanks}
use Rattle.mos_vm.proofs.written.trimmed_end.Given as goal

abbrev pub invariant-loop-rest : goal.invariant-loop-rest
invariant-loop-rest l = record {
  value : skip_blanks (reverse l.rest) ≡ skip_blanks (reverse l.text);
  utf8 : IsUtf8 l.text → IsUtf8 l.rest;
}

abbrev pub decreases-loop-rest : goal.decreases-loop-rest
decreases-loop-rest l = length l.rest
