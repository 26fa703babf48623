use Rattle.mos_source.proofs.Reading.{one-tree, one-fault, not-both, one-of-both}
use Rattle.mos_source.proofs.laws.pieces_are_read_one_way.Goals as goal

pub returns-clause-one_tree : goal.returns-clause-one_tree
returns-clause-one_tree c = one-tree

pub returns-clause-one_fault : goal.returns-clause-one_fault
returns-clause-one_fault c = one-fault

pub returns-clause-not_both : goal.returns-clause-not_both
returns-clause-not_both c = not-both

pub returns-clause-one_of_both : goal.returns-clause-one_of_both
returns-clause-one_of_both c = one-of-both
