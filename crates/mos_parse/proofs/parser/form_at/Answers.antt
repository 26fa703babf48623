use Rattle.std.proofs.Common.{◌∙◌}
use Rattle.mos_parse.proofs.Forms.{form_at}
use Rattle.mos_parse.proofs.parser.form_at.Goals as goal

pub returns : goal.returns
returns c = form_at c.args.bytes.now c.args.tokens.now c.args.piece c.as_slice.result.now _ (c.as_slice.ensures.value ∙ c.in_ok-words.ensures) c.in_ok-form_of.ensures.found c.in_ok-form_of.ensures.small
