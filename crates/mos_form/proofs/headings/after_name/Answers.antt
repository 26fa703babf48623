use Rattle.std.proofs.Common.{◌∷◌, ◌++◌, Some, sym, ◌∙◌, ap, subst}
use Rattle.mos_scan.specs.declared.token.TokenKind.TheVariants as token_kind
use Rattle.mos_scan.specs.declared.grammar_word.Word.TheVariants as word_kind
use Rattle.mos_typing.specs.Spellings.{FindsBase}
use Rattle.mos_typing.specs.Typing.{base_word}
use Rattle.mos_form.proofs.Routines.{routine_piece, no_function, no_base}
use Rattle.mos_form.proofs.headings.after_name.Goals as goal

pub returns-in-Some-base : goal.returns-in-Some-base
returns-in-Some-base c =
    let is = subst (FindsBase c.in-Some.word.now) c.in-Some-base.is c.in_ok-base-in-Some.ensures in
    routine_piece c.args.forward (Some c.in-Some-base.base) c.args.name.now (word_kind.Name c.args.name.now ∷ c.args.words.now) c.in-Some.formals.now
    (ap (λ z. word_kind.Name c.args.name.now ∷ z) (c.in-Some.ensures ∙ ap (λ z. c.in-Some.formals.now ++ word_kind.Key token_kind.Colon ∷ z) (sym is))) c.routine.result c.routine.ensures

pub returns-in-None-base : goal.returns-in-None-base
returns-in-None-base c = no_base c.args.forward c.args.name.now c.args.words.now c.in-Some.formals.now c.in-Some.word.now c.in-Some.ensures
    (subst (FindsBase c.in-Some.word.now) c.in-None-base.is c.in_ok-base-in-Some.ensures)

pub returns-in-None : goal.returns-in-None
returns-in-None c = no_function c.args.forward c.args.name.now c.args.words.now (λ inside b. c.in-None.ensures inside (base_word b))
