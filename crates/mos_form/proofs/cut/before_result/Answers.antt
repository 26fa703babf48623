use Rattle.std.proofs.Common.{sym, ◌∙◌}
use Rattle.mos_scan.specs.declared.grammar_word.Word.TheVariants as word_kind
use Rattle.mos_scan.specs.declared.token.TokenKind.TheVariants as token_kind
use Rattle.mos_form.proofs.Parting.{snoc_same, regroup}
use Rattle.mos_form.proofs.cut.before_result.Goals as goal

pub returns-in-None-before_last : goal.returns-in-None-before_last
returns-in-None-before_last c inside typ e =
    c.in-None-before_last.ensures inside (snoc_same _ _ _ _ (sym c.in-Some.ensures ∙ e ∙ regroup inside (word_kind.Key token_kind.Colon) typ)).0
