use Rattle.std.proofs.Common.{◌≡◌, drop}
use Rattle.mos_words.specs.CommandLine.{values}
use Rattle.mos_words.proofs.command_line.options.setting.Given as goal

abbrev pub invariant-loop-place : goal.invariant-loop-place
invariant-loop-place l = values l.option (drop l.place l.arguments) ≡ values l.option l.arguments
