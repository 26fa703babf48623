use Rattle.mosel_run.proofs.OneAnswer.{judged_by, not_neither, accepted_once, refused_once}
use Rattle.mosel_run.proofs.laws.sources_are_judged.Goals as goal

pub returns-clause-judged : goal.returns-clause-judged
returns-clause-judged c = judged_by

pub returns-clause-never_neither : goal.returns-clause-never_neither
returns-clause-never_neither c = not_neither c.sources_are_parsed_one_way.ensures.never_neither

pub returns-clause-accepted : goal.returns-clause-accepted
returns-clause-accepted c = accepted_once c.sources_are_parsed_one_way.ensures.never_both c.sources_are_parsed_one_way.ensures.one_tree

pub returns-clause-refused : goal.returns-clause-refused
returns-clause-refused c =
    refused_once c.sources_are_parsed_one_way.ensures.never_both c.sources_are_parsed_one_way.ensures.one_tree c.sources_are_parsed_one_way.ensures.one_fault
