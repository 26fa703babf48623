use Rattle.std.proofs.Common.{◌≡◌, ◌+◌, ◌++◌, drop}
use Rattle.bim_code.specs.Code.{code_size}
use Rattle.bim_list.specs.Listing.{lines_from}
use Rattle.bim_list.proofs.listing.put_lines.Given as goal

abbrev pub invariant-loop-i : goal.invariant-loop-i
invariant-loop-i l = record {
  written : l.out.items ++ lines_from l.at (drop l.i-index l.code) ≡ l.initial.out.items ++ lines_from 0 l.code;
  size : l.at + code_size (drop l.i-index l.code) ≡ code_size l.code;
}
