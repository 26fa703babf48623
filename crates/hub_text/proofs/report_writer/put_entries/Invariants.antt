use Rattle.std.proofs.Common.{◌≡◌, ◌++◌, drop}
use Rattle.hub_text.specs.ReportText.{entry_lines}
use Rattle.hub_text.proofs.report_writer.put_entries.Given as goal

abbrev pub invariant-loop-place : goal.invariant-loop-place
invariant-loop-place l =
    l.out.items ++ entry_lines l.place (drop l.place l.entries) ≡ l.initial.out.items ++ entry_lines 0 l.entries
