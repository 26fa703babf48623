use Rattle.std.proofs.Common.{◌≡◌, ◌++◌, drop}
use Rattle.hub_text.specs.ReportText.{run_lines}
use Rattle.hub_text.proofs.report_writer.put_runs.Given as goal

abbrev pub invariant-loop-number : goal.invariant-loop-number
invariant-loop-number l =
    l.out.items ++ run_lines l.number (drop l.number l.runs) ≡ l.initial.out.items ++ run_lines 0 l.runs
