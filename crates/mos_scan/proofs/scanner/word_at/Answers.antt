use Rattle.std.proofs.Common.{◌∙◌, ap, take, subst, sym}
use Rattle.std.specs.Str.{IsUtf8}
use Rattle.mos_scan.proofs.Verdicts.{word_is_text}
use Rattle.mos_scan.proofs.scanner.word_at.Goals as goal

pub text_of-requires : goal.text_of-requires
text_of-requires c = subst (λ x. IsUtf8 x) (sym (c.split_at.ensures.front ∙ ap (λ n. take n c.args.rest.now) c.word_length.ensures.value)) (word_is_text c.args.rest.now)
