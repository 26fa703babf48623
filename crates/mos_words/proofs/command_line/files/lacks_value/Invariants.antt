use Rattle.std.proofs.Common.{◌≡◌, drop}
use Rattle.mos_words.specs.CommandLine.{lacks_value}
use Rattle.mos_words.proofs.command_line.files.lacks_value.Given as goal

abbrev pub invariant-loop-place : goal.invariant-loop-place
invariant-loop-place l = lacks_value (drop l.place l.arguments) ≡ lacks_value l.arguments
