use Rattle.std.proofs.Common.{refl}
use Rattle.std.specs.Fmt.{digits}
use Rattle.hub_text.specs.ReplyText.{reply_text}
use Rattle.hub_text.specs.Quoting.{hex_text, with_number}
use Rattle.hub_text.proofs.examples.reply_texts.Goals as goal

pub returns : goal.returns
unfolding reply_text hex_text with_number digits
returns c = refl
