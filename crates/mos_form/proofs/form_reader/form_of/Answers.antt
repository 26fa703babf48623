use Rattle.mos_form.proofs.Whole.{alternative_piece, other_piece, said_found, said_only}
use Rattle.mos_form.proofs.Sizes.{forms_are_small}
use Rattle.mos_form.proofs.form_reader.form_of.Goals as goal

pub returns-in-Some-clause-found : goal.returns-in-Some-clause-found
returns-in-Some-clause-found c = said_found c.args.words.now c.alternative.result (alternative_piece c.expressions_have_plain_words.ensures.one c.args.words.now c.in-Some.labels.now c.in-Some.ensures c.alternative.result c.alternative.ensures)

pub returns-in-Some-clause-only : goal.returns-in-Some-clause-only
returns-in-Some-clause-only c = said_only c.args.words.now c.alternative.result (alternative_piece c.expressions_have_plain_words.ensures.one c.args.words.now c.in-Some.labels.now c.in-Some.ensures c.alternative.result c.alternative.ensures)

pub returns-in-None-clause-found : goal.returns-in-None-clause-found
returns-in-None-clause-found c = said_found c.args.words.now c.other.result (other_piece c.args.words.now c.in-None.ensures c.other.result c.other.ensures)

pub returns-in-None-clause-only : goal.returns-in-None-clause-only
returns-in-None-clause-only c = said_only c.args.words.now c.other.result (other_piece c.args.words.now c.in-None.ensures c.other.result c.other.ensures)

pub returns-in-Some-clause-small : goal.returns-in-Some-clause-small
returns-in-Some-clause-small c =
    forms_are_small c.trees_are_small.ensures.one c.trees_are_small.ensures.list c.trees_are_small.ensures.index c.types_are_small.ensures.type_form c.types_are_small.ensures.formals
    c.args.words.now c.alternative.result (said_found c.args.words.now c.alternative.result (alternative_piece c.expressions_have_plain_words.ensures.one c.args.words.now c.in-Some.labels.now c.in-Some.ensures c.alternative.result c.alternative.ensures))

pub returns-in-None-clause-small : goal.returns-in-None-clause-small
returns-in-None-clause-small c =
    forms_are_small c.trees_are_small.ensures.one c.trees_are_small.ensures.list c.trees_are_small.ensures.index c.types_are_small.ensures.type_form c.types_are_small.ensures.formals
    c.args.words.now c.other.result (said_found c.args.words.now c.other.result (other_piece c.args.words.now c.in-None.ensures c.other.result c.other.ensures))
