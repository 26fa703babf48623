use Rattle.std.proofs.Common.{◌≡◌, drop}
use Rattle.std.specs.List.{list_all}
use Rattle.mos_words.specs.CommandLine.{values, is_value}
use Rattle.mos_words.proofs.command_line.options.has_wrong_value.Given as goal

abbrev pub invariant-loop-place : goal.invariant-loop-place
invariant-loop-place l = list_all (is_value l.option) (values l.option (drop l.place l.arguments)) ≡ list_all (is_value l.option) (values l.option l.arguments)
