use Rattle.std.proofs.Common.{◌≡◌, ◌≤◌, ◌+◌, ◌++◌, drop}
use Rattle.mos_scan.specs.Cutting as spec
use Rattle.mos_scan.proofs.piece.all_pieces.Given as goal

abbrev pub invariant-loop-token : goal.invariant-loop-token
invariant-loop-token l = record {
  value : l.found.items ++ spec.pieces_from l.context l.piece (drop l.token-index l.tokens) ≡ spec.cut_pieces l.tokens;
  place : l.piece.from + l.piece.count ≤ l.token-index;
  shallow : l.context.depth ≤ l.token-index;
  inner : l.piece.depth ≤ l.token-index;
}
