use Rattle.std.proofs.Common.{subst, sym}
use Rattle.mos_parse.specs.Answers.{IsFaultOf, BreaksBy}
use Rattle.mos_parse.specs.Steps.{Reads}
use Rattle.mos_parse.proofs.Whole.{tokens_faulty, tokens_found, tokens_breaks, tokens_no_larger, fault_faulty, fault_breaks}
use Rattle.mos_parse.proofs.parser.read.Goals as goal

pub returns-in-Ok-clause-found : goal.returns-in-Ok-clause-found
returns-in-Ok-clause-found c =
    tokens_found c.args.bytes.now c.in-Ok.tokens.items c.parse_tokens.result c.in-Ok.ensures.found
    (subst (λ z. Reads c.args.bytes.now z c.parse_tokens.result) c.as_slice.ensures.value c.parse_tokens.ensures)

pub returns-in-Ok-clause-faulty : goal.returns-in-Ok-clause-faulty
returns-in-Ok-clause-faulty c =
    tokens_faulty c.args.bytes.now c.in-Ok.tokens.items c.parse_tokens.result c.in-Ok.ensures.found
    (subst (λ z. Reads c.args.bytes.now z c.parse_tokens.result) c.as_slice.ensures.value c.parse_tokens.ensures)

pub returns-in-Ok-clause-breaks : goal.returns-in-Ok-clause-breaks
returns-in-Ok-clause-breaks c =
    tokens_breaks c.sources_have_one_list_of_forms.ensures c.args.bytes.now c.in-Ok.tokens.items c.parse_tokens.result c.in-Ok.ensures.found
    (subst (λ z. Reads c.args.bytes.now z c.parse_tokens.result) c.as_slice.ensures.value c.parse_tokens.ensures)

pub returns-in-Ok-clause-no_larger : goal.returns-in-Ok-clause-no_larger
returns-in-Ok-clause-no_larger c =
    tokens_no_larger c.args.bytes.now c.in-Ok.tokens.items c.parse_tokens.result c.in-Ok.ensures.few
    (subst (λ z. Reads c.args.bytes.now z c.parse_tokens.result) c.as_slice.ensures.value c.parse_tokens.ensures)

pub returns-in-Err-clause-faulty : goal.returns-in-Err-clause-faulty
returns-in-Err-clause-faulty c = subst (λ z. IsFaultOf c.args.bytes.now z) (sym c.of_tokens.ensures) (fault_faulty c.args.bytes.now c.in-Err.fault c.in-Err.ensures.fault)

pub returns-in-Err-clause-breaks : goal.returns-in-Err-clause-breaks
returns-in-Err-clause-breaks c = subst (λ z. BreaksBy c.args.bytes.now z) (sym c.of_tokens.ensures) (fault_breaks c.args.bytes.now c.in-Err.fault c.in-Err.ensures.taken)
