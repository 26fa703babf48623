-- what `run_command` reads fits
use Rattle.mos_words.proofs.Fit.{all_fit}
use Rattle.mos_words.proofs.command_line.command.Goals as goal

pub returns-in-len2-up-clause-fit : goal.returns-in-len2-up-clause-fit
returns-in-len2-up-clause-fit c = all_fit _ c.run_command.result c.run_command.ensures.value
