use Rattle.std.proofs.Common.{refl}
use Rattle.std.specs.Fmt.{digits}
use Rattle.hub_text.specs.ReportText.{report_text, run_line, run_head, run_end_text, counts_text, output_text, entry_line, caller_text}
use Rattle.hub_text.specs.CallText.{call_text, open_text, file_text, end_text}
use Rattle.hub_text.specs.ReplyText.{reply_text}
use Rattle.hub_text.specs.Quoting.{in_quotes, with_number}
use Rattle.hub_text.proofs.examples.hello_report.Goals as goal

pub returns : goal.returns
unfolding report_text run_line run_head run_end_text counts_text output_text entry_line caller_text call_text open_text file_text end_text reply_text in_quotes with_number digits
returns c = refl
