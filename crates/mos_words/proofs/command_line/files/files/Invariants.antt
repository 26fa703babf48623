use Rattle.std.proofs.Common.{◌≡◌, ◌++◌, drop}
use Rattle.mos_words.specs.CommandLine.{files, files_behind}
use Rattle.mos_words.proofs.command_line.files.files.Given as goal

abbrev pub invariant-loop-word : goal.invariant-loop-word
invariant-loop-word l = l.named ++ files_behind l.before (drop l.word-index l.arguments) ≡ files l.arguments
