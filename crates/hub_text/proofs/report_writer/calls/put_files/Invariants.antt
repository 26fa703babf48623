use Rattle.std.proofs.Common.{◌≡◌, ◌++◌, drop, flat_map}
use Rattle.hub_text.specs.CallText.{file_text}
use Rattle.hub_text.proofs.report_writer.calls.put_files.Given as goal

abbrev pub invariant-loop-file : goal.invariant-loop-file
invariant-loop-file l =
    l.out.items ++ flat_map file_text (drop l.file-index l.files)
    ≡ l.initial.out.items ++ flat_map file_text l.files
