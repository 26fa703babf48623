-- as many empty bytes as passes
use Rattle.std.proofs.Common.{◌≡◌, ◌++◌, None, replicate}
use Rattle.bim_rules.proofs.code_map.push_none.Given as goal

abbrev pub invariant-loop-byte : goal.invariant-loop-byte
invariant-loop-byte l = l.cells.items ≡ l.initial.cells.items ++ replicate l._byte None
