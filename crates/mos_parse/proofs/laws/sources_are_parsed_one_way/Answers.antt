use Rattle.mos_parse.proofs.OneWay.{one_tree, not_both, one_fault, not_neither}
use Rattle.mos_parse.proofs.laws.sources_are_parsed_one_way.Goals as goal

pub returns-clause-never_neither : goal.returns-clause-never_neither
returns-clause-never_neither c = not_neither c.source_is_scanned_once.ensures.some c.tokens_are_cut_once.ensures.some c.words_have_one_form.ensures.some c.pieces_are_read_one_way.ensures.one_of_both

pub returns-clause-never_both : goal.returns-clause-never_both
returns-clause-never_both c = not_both c.sources_have_one_list_of_forms.ensures c.source_is_scanned_once.ensures.apart c.pieces_are_read_one_way.ensures.not_both

pub returns-clause-one_tree : goal.returns-clause-one_tree
returns-clause-one_tree c = one_tree c.sources_have_one_list_of_forms.ensures c.pieces_are_read_one_way.ensures.one_tree

pub returns-clause-one_fault : goal.returns-clause-one_fault
returns-clause-one_fault c = one_fault c.sources_have_one_list_of_forms.ensures c.source_is_scanned_once.ensures.fault c.source_is_scanned_once.ensures.apart c.pieces_are_read_one_way.ensures.one_fault
