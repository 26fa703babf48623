use Rattle.std.proofs.Common.{rules, sym, ap, ◌∙◌}
use denote.Enum.Bare.{same_true}
use Rattle.mos_scan.specs.declared.grammar_word.Word.TheVariants as word_kind
use Rattle.mos_scan.specs.contracts.token.TokenKind.{the_type}
use Rattle.mos_form.proofs.cut.is_key.Goals as goal

pub returns-in-Key-clause-yes : goal.returns-in-Key-clause-yes
returns-in-Key-clause-yes c h = c.in-Key.is ∙ ap word_kind.Key (same_true the_type (search rules) _ _ (sym c.eq.ensures ∙ h))
