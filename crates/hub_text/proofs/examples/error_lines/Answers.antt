use Rattle.std.proofs.Common.{refl}
use Rattle.std.specs.Fmt.{digits}
use Rattle.hub_text.specs.ErrorLines.{about, bad_input_line, rule_text, usage_line, verdict_line}
use Rattle.hub_text.proofs.examples.error_lines.Goals as goal

pub returns : goal.returns
unfolding about usage_line verdict_line bad_input_line rule_text digits
returns c = refl
