use Rattle.std.proofs.Common.{◌∷◌, [], Some, None, sym, ◌∙◌, subst, IfOk}
use Rattle.std.proofs.lemmas.List.{append_assoc}
use Rattle.mos_scan.specs.declared.grammar_word.Word.TheVariants as word_kind
use Rattle.mos_scan.specs.declared.token.TokenKind.TheVariants as token_kind
use Rattle.mos_form.specs.Cells.{TellsCell}
use Rattle.mos_form.proofs.Bracketed.{set_piece, no_set}
use Rattle.mos_form.proofs.form_reader.set_cell.Goals as goal

pub returns-in_ok-copy-in-Some : goal.returns-in_ok-copy-in-Some
returns-in_ok-copy-in-Some c = set_piece c.args.name.now c.in_ok-copy-in-Some.field-0 c.args.target.now c.in-Some.indexes.now c.args.value.now None c.args.operator c.in_ok-copy-in-Some.ensures c.in-Some.ensures c.cell_assignment.result c.cell_assignment.ensures

pub returns-in_ok-field-in-Some-before_field : goal.returns-in_ok-field-in-Some-before_field
returns-in_ok-field-in-Some-before_field c =
    set_piece c.args.name.now c.in_ok-name-in-Some-before_field.name c.args.target.now c.in-Some-before_field.indexes.now c.args.value.now (Some c.in-Some-before_field.field.now) c.args.operator c.in_ok-name-in-Some-before_field.ensures
    (c.in-Some-before_field.ensures ∙ sym (append_assoc c.in-Some-before_field.indexes.now (word_kind.Key token_kind.CloseRound ∷ []) (word_kind.Key token_kind.Dot ∷ word_kind.Name c.in-Some-before_field.field.now ∷ []))) c.cell_assignment-in-Some-before_field.result
    (subst (λ z. IfOk c.cell_assignment-in-Some-before_field.result (TellsCell c.in_ok-name-in-Some-before_field.name (Some z) c.args.operator c.in-Some-before_field.indexes.now c.args.value.now)) c.in_ok-field-in-Some-before_field.ensures c.cell_assignment-in-Some-before_field.ensures)

pub returns-in-None-before_field : goal.returns-in-None-before_field
returns-in-None-before_field c = no_set c.args.name.now c.args.target.now c.args.value.now c.args.operator c.in-None.ensures c.in-None-before_field.ensures
