-- each law by its lemma
use Rattle.bim_machine.specs.Starts.{beginning_of}
use Rattle.bim_machine.proofs.Runs.{step_by_step, stays_over, last_step}
use Rattle.bim_machine.proofs.MoreOfTheWorld.{run_more}
use Rattle.bim_machine.proofs.Pace.{over_in_time}
use Rattle.bim_machine.proofs.Growth.{all_grows}
use Rattle.bim_machine.proofs.WholeCourses.{few_steps_begun, few_steps_of, ticks_within, calls_within, asks_last_of}
use Rattle.bim_machine.proofs.laws.machine_laws.Goals as goal

pub returns : goal.returns
returns c = record {
  more_changes_nothing = run_more;
  over_in_time = over_in_time;
  few_steps = few_steps_begun;
  few_steps_of_course = λ image text replies budget keeps. few_steps_of image (record { replies = replies; budget = budget }) (beginning_of image text) keeps;
  ticks_within = λ image text replies budget. ticks_within image (record { replies = replies; budget = budget }) (beginning_of image text);
  step_by_step = step_by_step;
  stays_over = stays_over;
  last_step = last_step;
  all_grows = all_grows;
  calls_within = λ image text replies budget. calls_within image (record { replies = replies; budget = budget }) (beginning_of image text);
  asks_last = λ image text replies budget call e. asks_last_of image (record { replies = replies; budget = budget }) (beginning_of image text) call e;
}
