use Rattle.std.proofs.Common.{◌∙◌}
use Rattle.mos_scan.proofs.Texts.{text_is}
use Rattle.mos_scan.proofs.grammar_word.text_word.Goals as goal

pub returns-in_ok-source_text-in-Ok : goal.returns-in_ok-source_text-in-Ok
returns-in_ok-source_text-in-Ok c = text_is _ _ (c.in_ok-source_text-in-Ok.ensures ∙ c.in-Ok.ensures.cases.0) c.in-Ok.ensures.cases.1
