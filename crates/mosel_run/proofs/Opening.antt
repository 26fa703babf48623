-- The job of a command that keeps its limits can be opened.

use Rattle.std.proofs.Common.{ℕ, List, [], ◌∷◌, true, refl, ap, arith}
use Rattle.std.specs.Prelude.{◌&&◌, ◌||◌}
use Rattle.std.proofs.lemmas.List.Elements.{All-nil}
use Rattle.job_calls.specs.Legal.{CanOpen}
use Rattle.lane_step.specs.Alone.{opening_with}
use Rattle.mos_words.specs.Fit.{IsWithinLimits}
use Rattle.mos_text.specs.FileName.{is_image_name}
use Rattle.mos_words.specs.declared.command_line.commands.Command.TheVariants.{Run as RunCommand}
use Rattle.mosel_run.specs.Making.{listed_file}

pub can_open : (name source : List ℕ) (lanes budget : ℕ) → IsWithinLimits (RunCommand name lanes budget) → CanOpen (opening_with lanes budget [] (listed_file name source ∷ []))
can_open name source lanes budget fit = record {
  some_lane = fit.2;
  few_lanes = fit.3;
  some_budget = fit.4;
  small_budget = fit.5;
  few_files = omega arith;
  master = (ap (λ b. b || is_image_name name) fit.1, refl);
  names = ap (λ b. b && true) fit.0;
  distinct = (All-nil _, tt);
}
