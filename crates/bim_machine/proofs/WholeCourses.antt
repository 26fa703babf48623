-- What holds of whole courses, by what holds of runs.

use Rattle.std.proofs.Common.{◌≡◌, ◌≤◌, ℕ, List, length, refl, sym, subst, arith}
use Rattle.job_calls.specs.declared.call.Call.{Call}
use Rattle.bim_code.specs.declared.image.Image.{Image}
use Rattle.bim_code.specs.Rules.{KeepsTicks}
use Rattle.mos_value.specs.Values.{Value}
use Rattle.run_state.specs.Stops.{Stop, Asking}
use Rattle.run_state.specs.State.{World, State, beginning}
use Rattle.bim_machine.specs.Starts.{Beginning, Refused, Broken, Begins}
use Rattle.bim_machine.specs.Machine.{Machine, At, Halted}
use Rattle.bim_machine.specs.Courses.{run, start, most_steps, outcome_at, course_from}
use Rattle.bim_machine.specs.Laws.{state_in}
use Rattle.bim_machine.proofs.Growth.{Later, Asked, run_later}
use Rattle.bim_machine.proofs.Pace.{few_steps}

outcome_ticks : (m : Machine) → (outcome_at m).ticks ≡ (state_in m).counts.ticks
outcome_ticks (At address work here s) = refl
outcome_ticks (Halted stop address s) = refl

begun_within : (image : Image) (w : World) (values : List Value) (n : ℕ) → (state_in (run image w n 0 (start values)).machine).counts.ticks ≤ w.budget
begun_within image w values n = (run_later image w n 0 0 _ _ (beginning values)).within (omega arith)

pub few_steps_of : (image : Image) (w : World) (b : Beginning) → KeepsTicks image → (course_from image w b).steps ≤ most_steps image (course_from image w b).outcome.ticks
few_steps_of image w Refused keeps = omega arith
few_steps_of image w Broken keeps = omega arith
few_steps_of image w (Begins values) keeps =
    subst (λ t. (run image w (most_steps image w.budget) 0 (start values)).steps ≤ most_steps image t) (sym (outcome_ticks (run image w (most_steps image w.budget) 0 (start values)).machine))
    (few_steps image w values (most_steps image w.budget) keeps (begun_within image w values (most_steps image w.budget)))

pub ticks_within : (image : Image) (w : World) (b : Beginning) → (course_from image w b).outcome.ticks ≤ w.budget
ticks_within image w Refused = omega arith
ticks_within image w Broken = omega arith
ticks_within image w (Begins values) = rw (outcome_ticks (run image w (most_steps image w.budget) 0 (start values)).machine) (begun_within image w values (most_steps image w.budget))

outcome_calls : (m : Machine) → (outcome_at m).calls ≡ (state_in m).counts.calls
outcome_calls (At address work here s) = refl
outcome_calls (Halted stop address s) = refl

pub calls_within : (image : Image) (w : World) (b : Beginning) → length (course_from image w b).outcome.calls ≤ length w.replies
calls_within image w Refused = omega arith
calls_within image w Broken = omega arith
calls_within image w (Begins values) =
    rw (outcome_calls (run image w (most_steps image w.budget) 0 (start values)).machine)
    ((run_later image w (most_steps image w.budget) 0 0 _ _ (beginning values)).answered (omega arith))

asks_last : (w : World) (s : State) (m : Machine) (call : Call) → length s.counts.calls ≤ length w.replies → Later w s m → (outcome_at m).stop ≡ Asking call
    → length (outcome_at m).calls ≡ length w.replies
asks_last w s (At address work here t) call few later e = cc
asks_last w s (Halted stop address t) call few later e =
    let all : length w.replies ≤ length t.counts.calls = subst (λ (stop : Stop). Asked w (Halted stop address t)) e later.asked in
    let most = later.answered few in omega (arith, all, most)

pub asks_last_of : (image : Image) (w : World) (b : Beginning) (call : Call) → (course_from image w b).outcome.stop ≡ Asking call
    → length (course_from image w b).outcome.calls ≡ length w.replies
asks_last_of image w Refused call e = cc
asks_last_of image w Broken call e = cc
asks_last_of image w (Begins values) call e =
    asks_last w (beginning values) _ call (omega arith) (run_later image w (most_steps image w.budget) 0 0 _ _ (beginning values)) e

pub few_steps_begun : (image : Image) (w : World) (values : List Value) (n : ℕ) → KeepsTicks image
    → (run image w n 0 (start values)).steps ≤ most_steps image (state_in (run image w n 0 (start values)).machine).counts.ticks
few_steps_begun image w values n keeps = few_steps image w values n keeps (begun_within image w values n)
