use Rattle.mos_source.proofs.OneWay.{alternatives-differ, one-way}
use Rattle.mos_source.proofs.Broken.{productions-take-sources, productions-take-nothing-else, productions-break, productions-break-there}
use Rattle.mos_source.proofs.laws.pieces_break_by_productions.Goals as goal

pub returns-clause-differ : goal.returns-clause-differ
returns-clause-differ c = alternatives-differ

pub returns-clause-one_way : goal.returns-clause-one_way
returns-clause-one_way c = one-way

pub returns-clause-takes : goal.returns-clause-takes
returns-clause-takes c = productions-take-sources

pub returns-clause-takes_only : goal.returns-clause-takes_only
returns-clause-takes_only c = productions-take-nothing-else

pub returns-clause-breaks : goal.returns-clause-breaks
returns-clause-breaks c = productions-break

pub returns-clause-breaks_only : goal.returns-clause-breaks_only
returns-clause-breaks_only c = productions-break-there
