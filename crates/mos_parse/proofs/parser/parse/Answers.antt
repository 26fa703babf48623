use Rattle.mos_parse.proofs.Whole.{gives_tree, gives_fault}
use Rattle.mos_parse.proofs.parser.parse.Goals as goal

pub returns-clause-only : goal.returns-clause-only
returns-clause-only c =
    gives_tree c.sources_are_parsed_one_way.ensures.one_tree c.sources_are_parsed_one_way.ensures.never_both c.args.bytes.now c.read.result c.read.ensures.found c.read.ensures.faulty

pub returns-clause-only_fault : goal.returns-clause-only_fault
returns-clause-only_fault c =
    gives_fault c.sources_are_parsed_one_way.ensures.one_fault c.sources_are_parsed_one_way.ensures.never_both c.args.bytes.now c.read.result c.read.ensures.found c.read.ensures.faulty
