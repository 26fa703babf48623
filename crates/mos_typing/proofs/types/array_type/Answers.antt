use Rattle.std.proofs.Common.{sym, ◌∙◌, ◌++◌}
use Rattle.std.proofs.lemmas.Result.{err_from_is_err_and}
use Rattle.mos_typing.specs.Typing.{dynamic_words}
use Rattle.mos_typing.specs.Shapes.{array_of}
use Rattle.mos_typing.specs.Spellings.{IsTypeForm}
use Rattle.mos_typing.proofs.Saying.{says_want}
use Rattle.mos_typing.proofs.Typed.{says_no_cell, says_array}
use Rattle.mos_typing.proofs.types.array_type.Goals as goal

pub returns-in_err-base_of_word : goal.returns-in_err-base_of_word
returns-in_err-base_of_word c =
    let p = err_from_is_err_and c.from_residual.result c.from_residual.ensures.1 in
    rw (p.1, p.2) (says_want (IsTypeForm (dynamic_words c.args.dynamic ++ array_of c.args.indexes.now c.args.cell.now)))

pub returns-in-None : goal.returns-in-None
returns-in-None c = says_no_cell c.args.dynamic c.args.indexes.now c.args.cell.now (sym c.in-None.is ∙ c.in_ok-base_of_word.ensures)

pub returns-in-Some : goal.returns-in-Some
returns-in-Some c =
    says_array c.args.dynamic c.args.indexes.now c.args.cell.now c.in-Some.cell c.dimensions.result c.array_over.result (sym c.in-Some.is ∙ c.in_ok-base_of_word.ensures)
    c.dimensions.ensures c.array_over.ensures
