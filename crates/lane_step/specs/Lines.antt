-- As the code goes about it: the line of a report, and the name of the file that runs.

use Rattle.std.specs.Prelude.{◌≡◌, ℕ, List, [], ◌∷◌}
use Rattle.job_calls.specs.declared.end.End.{End}
use Rattle.job_calls.specs.declared.entry.Listed.{Listed}
use Rattle.job_calls.specs.declared.run_line.RunEnd.TheVariants.{Ended}
use Rattle.job_calls.specs.declared.run_line.RunLine.{RunLine}
use Rattle.mos_vm.specs.declared.runner.RunResult.{RunResult}

-- the line of a run that ended so
abbrev pub line_of : List ℕ → End → RunResult → RunLine
line_of name end ran = record {
  source = name;
  end = Ended end;
  ticks = ran.ticks;
  steps = ran.steps;
  output = ran.output;
}

-- the name of the first file
abbrev pub IsFirstName : List Listed → List ℕ → Type 0
IsFirstName [] name = ⊥
IsFirstName (file ∷ files) name = name ≡ file.name
