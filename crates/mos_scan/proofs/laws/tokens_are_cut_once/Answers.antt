use Rattle.mos_scan.proofs.CutPieces.{one_cut, some_cut}
use Rattle.mos_scan.proofs.laws.tokens_are_cut_once.Goals as goal

pub returns-clause-one : goal.returns-clause-one
returns-clause-one c = one_cut

pub returns-clause-some : goal.returns-clause-some
returns-clause-some c = some_cut
