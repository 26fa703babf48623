use Rattle.std.proofs.Common.{◌≡◌, ◌+◌, cond, length, drop}
use Rattle.mos_words.specs.CommandLine.{values}
use Rattle.mos_words.proofs.command_line.options.is_given_twice.Given as goal

abbrev pub invariant-loop-word : goal.invariant-loop-word
invariant-loop-word l = cond l.is_given 1 0 + length (values l.option (drop l.word-index l.arguments)) ≡ length (values l.option l.arguments)
