use Rattle.std.proofs.Common.{sym, ◌∙◌}
use Rattle.std.proofs.lemmas.Result.{err_from_is_err_and}
use Rattle.mos_typing.specs.Parts.{IsGroup}
use Rattle.mos_typing.proofs.Saying.{says_want}
use Rattle.mos_typing.proofs.Grouped.{says_no_names, says_group}
use Rattle.mos_typing.proofs.formal.group.Goals as goal

pub returns-in_err-names_of_words : goal.returns-in_err-names_of_words
returns-in_err-names_of_words c =
    let p = err_from_is_err_and c.from_residual.result c.from_residual.ensures.1 in
    rw (p.1, p.2) (says_want (IsGroup c.args.names.now c.args.typ.now))

pub returns-in-None : goal.returns-in-None
returns-in-None c = says_no_names c.args.names.now c.args.typ.now (sym c.in-None.is ∙ c.in_ok-names_of_words.ensures)

pub returns-in-Some : goal.returns-in-Some
returns-in-Some c =
    says_group c.args.names.now c.args.typ.now c.in-Some.found c.type_of_words.result c.group_of.result (sym c.in-Some.is ∙ c.in_ok-names_of_words.ensures)
    c.type_of_words.ensures c.group_of.ensures
