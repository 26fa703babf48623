use Rattle.mos_source.proofs.Whole.{is-found, is-only, is-faulty, is-break, is-no-larger}
use Rattle.mos_source.proofs.reader.source.Goals as goal

pub returns-clause-found : goal.returns-clause-found
returns-clause-found c = is-found c.args.pieces.items c.read.result c.read.ensures

pub returns-clause-only : goal.returns-clause-only
returns-clause-only c = is-only c.args.pieces.items c.read.result c.read.ensures

pub returns-clause-faulty : goal.returns-clause-faulty
returns-clause-faulty c = is-faulty c.args.pieces.items c.read.result c.read.ensures

pub returns-clause-breaks : goal.returns-clause-breaks
returns-clause-breaks c = is-break c.pieces_break_by_productions.ensures.breaks c.args.pieces.items c.read.result c.read.ensures

pub returns-clause-no_larger : goal.returns-clause-no_larger
returns-clause-no_larger c = is-no-larger c.args.pieces.items c.read.result c.read.ensures
