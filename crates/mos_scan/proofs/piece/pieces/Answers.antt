use Rattle.mos_scan.proofs.CutPieces.{found_pieces, only_pieces}
use Rattle.mos_scan.proofs.Fewness.{few_words}
use Rattle.mos_scan.proofs.piece.pieces.Goals as goal

pub returns-clause-found : goal.returns-clause-found
returns-clause-found c = found_pieces (λ v. v.items) c.args.tokens.now c.all_pieces.result c.all_pieces.ensures

pub returns-clause-only : goal.returns-clause-only
returns-clause-only c = only_pieces (λ v. v.items) c.args.tokens.now c.all_pieces.result c.all_pieces.ensures

pub returns-clause-few : goal.returns-clause-few
returns-clause-few c = λ source. few_words (λ v. v.items) source c.args.tokens.now c.all_pieces.result (found_pieces (λ v. v.items) c.args.tokens.now c.all_pieces.result c.all_pieces.ensures)
