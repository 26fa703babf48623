use Rattle.std.proofs.Common.{◌∷◌, Some, sym, ◌∙◌, ap}
use Rattle.mos_scan.specs.declared.grammar_word.Word.TheVariants as word_kind
use Rattle.mos_form.specs.Lists.{read_labels, behind_label, add}
use Rattle.mos_form.proofs.Exactly.{label_shown, label_alone}
use Rattle.mos_form.proofs.lists.next_label.Goals as goal

pub returns-in_ok-with_label-in-Ok-clause-reads : goal.returns-in_ok-with_label-in-Ok-clause-reads
returns-in_ok-with_label-in-Ok-clause-reads c =
    ap (λ z. read_labels c.args.found (word_kind.Name c.args.name.now ∷ z)) c.in-Some.ensures ∙ label_shown c.args.found c.args.name.now c.in-Some.text.now c.in-Some.behind.now
    ∙ ap (λ z. behind_label (add c.args.found c.args.name.now (Some z)) c.in-Some.behind.now) (sym c.in-Ok.ensures) ∙ ap (λ z. behind_label z c.in-Some.behind.now) (sym c.in_ok-with_label-in-Ok.ensures)

pub returns-in_ok-with_label-in-None-clause-reads : goal.returns-in_ok-with_label-in-None-clause-reads
returns-in_ok-with_label-in-None-clause-reads c =
    label_alone c.args.found c.args.name.now c.args.after.now c.in-None.ensures ∙ ap (λ z. behind_label z c.args.after.now) (sym c.in_ok-with_label-in-None.ensures)
