-- What a whole run of an image is: the course of the image.

use Rattle.std.specs.Prelude.{◌≡◌, ℕ, List, []}
use Rattle.bim_code.specs.declared.image.Image.{Image}
use Rattle.run_state.specs.Stops.{Outcome, Stop}
use Rattle.run_state.specs.Stops as stop
use Rattle.bim_machine.specs.Courses.{course_of}
use Rattle.mos_vm.specs.declared.stop.Stop.{Stop as VmStop}
use Rattle.mos_vm.specs.declared.stop.Stop.TheVariants as stop_kind
use Rattle.mos_vm.specs.declared.runner.RunResult.{RunResult}

-- the same stop in the words of the definitions
abbrev pub stop_of : VmStop → Stop
stop_of (stop_kind.Exited code) = stop.Exited code
stop_of (stop_kind.Failed kind) = stop.Failed kind
stop_of stop_kind.Spent = stop.Spent
stop_of stop_kind.Stuck = stop.Stuck

-- the outcome of a run that made no call
abbrev pub outcome_of : RunResult → Outcome
outcome_of ran = record { output = ran.output; calls = []; ticks = ran.ticks; stop = stop_of ran.stop }

-- the run is the course of the image, given a parameter text and no replies
abbrev pub IsCourse : Image → List ℕ → ℕ → RunResult → Type 0
IsCourse image params budget ran =
    course_of image params [] budget ≡ record { outcome = outcome_of ran; steps = ran.steps }
