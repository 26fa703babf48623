use Rattle.std.proofs.Common.{refl}
use Rattle.std.specs.Fmt.{digits}
use Rattle.hub_text.specs.CallText.{call_text, run_text, send_text, receiver_text, bytes_text, end_text}
use Rattle.hub_text.specs.Quoting.{in_quotes, hex_text, with_quotes}
use Rattle.hub_text.proofs.examples.call_texts.Goals as goal

pub returns : goal.returns
unfolding call_text run_text send_text receiver_text bytes_text end_text in_quotes hex_text with_quotes digits
returns c = refl
